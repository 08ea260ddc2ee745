-- Valuations that are alike mean the same.
use Rattle.std.proofs.Common.{◌≡◌, ℕ, zero, suc, ◌+◌, ◌<◌, ◌≤◌, Bool, true, false, cond, not, ◌||◌, List, [], ◌∷◌, length, map, Option, Some, None, All, Contains, refl, ap, sym, subst, ◌∙◌, arith}
use Rattle.std.specs.Prelude.{slice_get, IsTrue}
use Rattle.std.specs.List.{filter, range_with_len}
use Rattle.std.proofs.lemmas.List.Elements.{All-head, All-tail, All-contains}
use Rattle.std.proofs.Math.Path.{fun_ext}
use Rattle.sby_bits.specs.Rows.{Row}
use Rattle.design_core.specs.Asked.{output_of}
use Rattle.design_core.specs.Cells.{Parameters, Ports, cell_fn, is_reset, is_set, next_fn, reset_value}
use Rattle.design_core.specs.Ports.{digits_at, signal_at}
use Rattle.design_core.specs.Shape.{CellOf, ConnectOf, DesignOf, IsCellOf, IsDeclared, IsDesign, IsNumbered}
use Rattle.design_core.specs.Table.{role_of}
use Rattle.design_core.specs.declared.digit.Digit.{Digit}
use Rattle.design_core.specs.declared.digit.Digit.TheVariants.{Const as ConstDigit, Free as FreeDigit, Marker}
use Rattle.design_core.specs.declared.names.PortName.TheVariants.{A, En}
use Rattle.design_core.specs.declared.table.Role.{Role}
use Rattle.design_core.specs.declared.table.Role.TheVariants.{Combinational, Register, AsyncResetRegister, Constant, Initial, Source, Statement, Unsupported}
use Rattle.design_core.proofs.Lists.{Contains-from_place}
use Rattle.design_graph.proofs.Declared.{All-signal_at, All-digits_at, cell-declared, connect-declared, outputs-declared}
use Rattle.design_meaning.specs.Meaning.{Valuation, Frame, Follows, Starts, Assumed, Broken, Reached, IsCell, bit_in, row_in, digit_in, digits_in, parameters_in, ports_in, kept_row, held_row, row_of_role, shown_row, is_assert, is_assume, is_cover}
use Rattle.design_meaning.specs.Runs.{kept_by_role, kept_width}
use Rattle.design_signals.specs.declared.sig_bit.SigBit.{SigBit}
use Rattle.design_signals.specs.declared.sig_bit.SigBit.TheVariants.{Free}
use Rattle.word_model.specs.Layout.{IsAlike}

pub alike-turned : (d : DesignOf) (v w : Valuation) → IsAlike d v w → IsAlike d w v
alike-turned d v w h = record { bits = λ b db. sym (h.bits b db); kept = λ i k c at lt. sym (h.kept i k c at lt) }

pub from-filter : {X : Type 0} (test : X → Bool) (xs : List X) (k : ℕ) (x : X) → slice_get (filter test xs) k ≡ Some x → (i : ℕ) × (slice_get xs i ≡ Some x)
from-filter test [] k x h = absurd cc
from-filter {X = X} test (y ∷ xs) k x h = by (test y) h (λ j g. let r = from-filter test xs j x g in (suc r.0, r.1))
  where
    first : (j : ℕ) → slice_get (y ∷ filter test xs) j ≡ Some x → ((n : ℕ) → slice_get (filter test xs) n ≡ Some x → (i : ℕ) × (slice_get (y ∷ xs) i ≡ Some x)) → (i : ℕ) × (slice_get (y ∷ xs) i ≡ Some x)
    first zero g later = (0, g)
    first (suc j) g later = later j g

    by : (b : Bool) → slice_get (cond b (y ∷ filter test xs) (filter test xs)) k ≡ Some x → ((n : ℕ) → slice_get (filter test xs) n ≡ Some x → (i : ℕ) × (slice_get (y ∷ xs) i ≡ Some x))
        → (i : ℕ) × (slice_get (y ∷ xs) i ≡ Some x)
    by true g later = first k g later
    by false g later = later k g

range-same : (f g : ℕ → Bool) (n a : ℕ) → ((k : ℕ) → a ≤ k → k < a + n → f k ≡ g k) → map f (range_with_len a n) ≡ map g (range_with_len a n)
range-same f g zero a h = refl
range-same f g (suc n) a h =
    ap (λ (b : Bool). b ∷ map f (range_with_len (a + 1) n)) (h a (omega arith) (omega arith))
    ∙ ap (λ (r : Row). g a ∷ r) (range-same f g n (a + 1) (λ k from to. h k (omega (arith, from)) (omega (arith, to))))

module _ (d : DesignOf) (shape : IsDesign d) (v w : Valuation) (same : IsAlike d v w) where
  row-alike : (bits : List SigBit) → All (IsDeclared d.wires d.free) bits → row_in v bits ≡ row_in w bits
  row-alike [] h = refl
  row-alike (b ∷ bits) h =
      ap (λ (x : Bool). x ∷ row_in v bits) (same.bits b (All-head (IsDeclared d.wires d.free) b bits h))
      ∙ ap (λ (r : Row). bit_in w b ∷ r) (row-alike bits (All-tail (IsDeclared d.wires d.free) b bits h))

  digit-alike : (x : Digit) → IsNumbered d.free x → digit_in v x ≡ digit_in w x
  digit-alike (ConstDigit b) h = refl
  digit-alike (FreeDigit n) h = same.bits (Free n) h
  digit-alike Marker h = refl

  digits-alike : (xs : List Digit) → All (IsNumbered d.free) xs → map (digit_in v) xs ≡ map (digit_in w) xs
  digits-alike [] h = refl
  digits-alike (x ∷ xs) h =
      ap (λ (b : Bool). b ∷ map (digit_in v) xs) (digit-alike x (All-head (IsNumbered d.free) x xs h))
      ∙ ap (λ (r : Row). digit_in w x ∷ r) (digits-alike xs (All-tail (IsNumbered d.free) x xs h))

  option-alike : (o : Option (List Digit)) → ((xs : List Digit) → o ≡ Some xs → All (IsNumbered d.free) xs) → digits_in v o ≡ digits_in w o
  option-alike None h = refl
  option-alike (Some xs) h = digits-alike xs (h xs refl)

  module _ (i : ℕ) (c : CellOf) (at : IsCell d i c) where
    is : IsCellOf d.wires d.free c
    is = cell-declared d shape i c at

    ports-alike : ports_in v c ≡ ports_in w c
    ports-alike = fun_ext (λ name. row-alike (signal_at c.ports name) (All-signal_at (IsDeclared d.wires d.free) c.ports name is.ports))

    parameters-alike : parameters_in v c ≡ parameters_in w c
    parameters-alike = fun_ext (λ name. option-alike (digits_at c.parameters name) (λ xs e. All-digits_at (IsNumbered d.free) c.parameters name is.parameters xs e))

    output-alike : row_in v (output_of c) ≡ row_in w (output_of c)
    output-alike = row-alike (output_of c) (outputs-declared d.wires d.free c is)

    kept-alike : role_of c.kind ≡ AsyncResetRegister → kept_row v i c ≡ kept_row w i c
    kept-alike e =
        range-same (v.kept i) (w.kept i) (length (output_of c)) 0
        (λ k from to. same.kept i k c at (let n : kept_width c ≡ length (output_of c) = ap (λ (r : Role). kept_by_role r (length (output_of c))) e in omega (arith, to, n)))

    held-by : (r : Role) → (r ≡ AsyncResetRegister → kept_row v i c ≡ kept_row w i c) → row_of_role r (row_in v (output_of c)) (kept_row v i c) ≡ row_of_role r (row_in w (output_of c)) (kept_row w i c)
    held-by Combinational h = refl
    held-by Register h = output-alike
    held-by AsyncResetRegister h = h refl
    held-by Constant h = output-alike
    held-by Initial h = output-alike
    held-by Source h = refl
    held-by Statement h = refl
    held-by Unsupported h = refl

    held-alike : held_row v i c ≡ held_row w i c
    held-alike = held-by (role_of c.kind) kept-alike

    shown-alike : role_of c.kind ≡ AsyncResetRegister → shown_row v i c ≡ shown_row w i c
    shown-alike e =
        ap (λ (q : Ports). cond (is_reset AsyncResetRegister (parameters_in v c) q) (reset_value AsyncResetRegister (parameters_in v c)) (kept_row v i c)) ports-alike
        ∙ (ap (λ (p : Parameters). cond (is_reset AsyncResetRegister p (ports_in w c)) (reset_value AsyncResetRegister p) (kept_row v i c)) parameters-alike
        ∙ ap (λ (r : Row). cond (is_reset AsyncResetRegister (parameters_in w c) (ports_in w c)) (reset_value AsyncResetRegister (parameters_in w c)) r) (kept-alike e))

    fn-alike : cell_fn c.kind (parameters_in v c) (ports_in v c) ≡ cell_fn c.kind (parameters_in w c) (ports_in w c)
    fn-alike =
        ap (λ (q : Ports). cell_fn c.kind (parameters_in v c) q) ports-alike ∙ ap (λ (p : Parameters). cell_fn c.kind p (ports_in w c)) parameters-alike

    next-alike : next_fn c.kind (parameters_in v c) (ports_in v c) (held_row v i c) ≡ next_fn c.kind (parameters_in w c) (ports_in w c) (held_row w i c)
    next-alike =
        ap (λ (q : Ports). next_fn c.kind (parameters_in v c) q (held_row v i c)) ports-alike
        ∙ (ap (λ (p : Parameters). next_fn c.kind p (ports_in w c) (held_row v i c)) parameters-alike
        ∙ ap (λ (r : Row). next_fn c.kind (parameters_in w c) (ports_in w c) r) held-alike)

  pub frame-alike : Frame d v → Frame d w
  frame-alike f = record {
    cells = λ i c at role. sym (output-alike i c at) ∙ (f.cells i c at role ∙ fn-alike i c at);
    resets = λ i c at role. sym (output-alike i c at) ∙ (f.resets i c at role ∙ shown-alike i c at role);
    connects = λ k j at.
        let both = connect-declared d shape k j at in
        sym (row-alike j.left both.0) ∙ (f.connects k j at ∙ row-alike j.right both.1);
  }

  pub starts-alike : Starts d v → Starts d w
  starts-alike s = record {
    digits = λ i k c x at start. subst (λ (r : Row). slice_get r k ≡ Some x) (held-alike i c at) (s.digits i k c x at start);
    initial = λ i c at role. sym (held-alike i c at) ∙ s.initial i c at role;
  }

  set-alike : (test : CellOf → Bool) (k : ℕ) (c : CellOf) → slice_get (filter test d.cells) k ≡ Some c → ports_in v c ≡ ports_in w c
  set-alike test k c h = let r = from-filter test d.cells k c h in ports-alike r.0 c r.1

  pub assumed-alike : Assumed d v → Assumed d w
  assumed-alike a k c at =
      subst (λ (q : Ports). IsTrue (not (is_set (q En)) || is_set (q A))) (set-alike (λ (x : CellOf). is_assume x.kind) k c at) (a k c at)

  pub broken-alike : (a : ℕ) → Broken d v a → Broken d w a
  broken-alike a b =
      let same_ports = set-alike (λ (x : CellOf). is_assert x.kind) a b.0 b.1 in
      (b.0, b.1, subst (λ (q : Ports). is_set (q En) ≡ true) same_ports b.2, subst (λ (q : Ports). is_set (q A) ≡ false) same_ports b.3)

  pub reached-alike : (k : ℕ) → Reached d v k → Reached d w k
  reached-alike k b =
      let same_ports = set-alike (λ (x : CellOf). is_cover x.kind) k b.0 b.1 in
      (b.0, b.1, subst (λ (q : Ports). is_set (q En) ≡ true) same_ports b.2, subst (λ (q : Ports). is_set (q A) ≡ true) same_ports b.3)

pub follows-alike : (d : DesignOf) (shape : IsDesign d) (v w x y : Valuation) → IsAlike d v w → IsAlike d x y → Follows d v x → Follows d w y
follows-alike d shape v w x y now next f = λ i c at. sym (held-alike d shape x y next i c at) ∙ (f i c at ∙ next-alike d shape v w now i c at)
