-- Nodes as they are made.
use Rattle.std.proofs.Common.{◌≡◌, ◌⊎◌, inl, inr, ℕ, zero, suc, ◌+◌, ◌<◌, ◌≤◌, Bool, true, false, cond, List, [], ◌∷◌, ◌++◌, length, map, take, Option, Some, refl, ap, sym, subst, ◌∙◌, arith}
use Rattle.std.specs.Prelude.{slice_get}
use Rattle.std.specs.List.{flat_map, range_with_len}
use Rattle.std.proofs.lemmas.List.{length-map}
use Rattle.design_check.specs.Faults.{flag}
use Rattle.design_core.specs.Asked.{output_of}
use Rattle.design_core.specs.Places.{place_of}
use Rattle.design_core.specs.Ports.{signal_at}
use Rattle.design_core.specs.Shape.{CellOf, ConnectOf, DesignOf}
use Rattle.design_core.specs.declared.names.ParameterName.TheVariants.{ArstPolarity, ArstValue}
use Rattle.design_core.specs.declared.names.PortName.TheVariants.{Arst}
use Rattle.design_core.specs.declared.table.Role.{Role}
use Rattle.design_core.specs.declared.table.Role.TheVariants.{Combinational, Register, AsyncResetRegister, Constant, Initial, Source, Statement, Unsupported}
use Rattle.design_graph.specs.Order.{is_in_cycle}
use Rattle.std.proofs.lemmas.Bool.{false≢true}
use Rattle.model_core.specs.Shape.{NodeOf}
use Rattle.model_core.specs.declared.op.Op.{Op}
use Rattle.model_core.specs.declared.op.Op.TheVariants as op
use Rattle.word_model.specs.Layout.{kept_place, kept_places, parameter_places, signal_places}
use Rattle.word_model.specs.Nodes.{reset_node}

abbrev pub node : Op → List ℕ → List ℕ → List ℕ → List ℕ → NodeOf
node o a b s y = record { op = o; a = a; b = b; s = s; y = y }

same-node : (o : Op) (a a' b b' s s' y y' : List ℕ) → a ≡ a' → b ≡ b' → s ≡ s' → y ≡ y' → node o a b s y ≡ node o a' b' s' y'
same-node o a a' b b' s s' y y' ea eb es ey =
    ap (λ z. node o z b s y) ea ∙ (ap (λ z. node o a' z s y) eb ∙ (ap (λ z. node o a' b' z y) es ∙ ap (λ z. node o a' b' s' z) ey))

range-places : (d : DesignOf) (i first : ℕ) → first ≡ kept_place d i 0 → (ks : List ℕ) → map (λ k. first + k) ks ≡ map (kept_place d i) ks
range-places d i first e [] = refl
range-places d i first e (k ∷ ks) =
    let same : first + k ≡ kept_place d i k = omega (arith, e) in
    ap (λ (n : ℕ). n ∷ map (λ j. first + j) ks) same ∙ ap (λ (l : List ℕ). kept_place d i k ∷ l) (range-places d i first e ks)

module _ (d : DesignOf) (i : ℕ) (x : CellOf) (first : ℕ) (e : first ≡ kept_place d i 0) where
  pub kept-made : (count : ℕ) → count ≡ length (output_of x) → map (λ k. first + k) (range_with_len 0 count) ≡ kept_places d i (length (output_of x))
  kept-made count n = ap (λ (m : ℕ). map (λ k. first + k) (range_with_len 0 m)) n ∙ range-places d i first e (range_with_len 0 (length (output_of x)))

  module _ (a b s y : List ℕ) (count : ℕ) (n : count ≡ length y) (ey : y ≡ signal_places d (output_of x)) (ea : a ≡ map (λ k. first + k) (range_with_len 0 count)) (eb : b ≡ parameter_places d x ArstValue) (es : s ≡ signal_places d (signal_at x.ports Arst)) where
    wide : count ≡ length (output_of x)
    wide = n ∙ (ap length ey ∙ length-map (output_of x) (place_of d))

    pub reset-high : flag x ArstPolarity ≡ true → node op.Mux a b s y ≡ reset_node d i x
    reset-high f =
        same-node op.Mux a (cond (flag x ArstPolarity) (kept_places d i (length (output_of x))) (parameter_places d x ArstValue)) b (cond (flag x ArstPolarity) (parameter_places d x ArstValue) (kept_places d i (length (output_of x)))) s (signal_places d (signal_at x.ports Arst)) y (signal_places d (output_of x))
        (ea ∙ (kept-made count wide ∙ ap (λ (t : Bool). cond t (kept_places d i (length (output_of x))) (parameter_places d x ArstValue)) (sym f)))
        (eb ∙ ap (λ (t : Bool). cond t (parameter_places d x ArstValue) (kept_places d i (length (output_of x)))) (sym f)) es ey

    pub reset-low : flag x ArstPolarity ≡ false → node op.Mux b a s y ≡ reset_node d i x
    reset-low f =
        same-node op.Mux b (cond (flag x ArstPolarity) (kept_places d i (length (output_of x))) (parameter_places d x ArstValue)) a (cond (flag x ArstPolarity) (parameter_places d x ArstValue) (kept_places d i (length (output_of x)))) s (signal_places d (signal_at x.ports Arst)) y (signal_places d (output_of x))
        (eb ∙ ap (λ (t : Bool). cond t (kept_places d i (length (output_of x))) (parameter_places d x ArstValue)) (sym f))
        (ea ∙ (kept-made count wide ∙ ap (λ (t : Bool). cond t (parameter_places d x ArstValue) (kept_places d i (length (output_of x)))) (sym f))) es ey

-- of the two roles within a cycle
pub combinational : (r : Role) → is_in_cycle r ≡ true → (r ≡ AsyncResetRegister → ⊥) → r ≡ Combinational
combinational Combinational h other = refl
combinational Register h other = absurd (false≢true h)
combinational AsyncResetRegister h other = absurd (other refl)
combinational Constant h other = absurd (false≢true h)
combinational Initial h other = absurd (false≢true h)
combinational Source h other = absurd (false≢true h)
combinational Statement h other = absurd (false≢true h)
combinational Unsupported h other = absurd (false≢true h)

length-range : (a n : ℕ) → length (range_with_len a n) ≡ n
length-range a zero = refl
length-range a (suc n) = ap suc (length-range (a + 1) n)

pub few-range : (d : DesignOf) (x : CellOf) (first count : ℕ) (row ys : List ℕ) → row ≡ map (λ k. first + k) (range_with_len 0 count) → count ≡ length ys → ys ≡ signal_places d (output_of x) → length (output_of x) ≤ 4096 → length row < 4294967296
few-range d x first count row ys e n s few =
    omega (arith, ap length e, length-map (range_with_len 0 count) (λ k. first + k), length-range 0 count, n, ap length s, length-map (output_of x) (place_of d), few)

pub kept-long : (d : DesignOf) (i n : ℕ) → length (kept_places d i n) ≡ n
kept-long d i n = length-map (range_with_len 0 n) (kept_place d i) ∙ length-range 0 n
