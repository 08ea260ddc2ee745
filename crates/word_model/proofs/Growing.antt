-- Models that grow by one part after the other.
use Rattle.std.proofs.Common.{◌≡◌, ◌⊎◌, inl, inr, ℕ, zero, suc, ◌+◌, ◌<◌, ◌≤◌, ◌^◌, Bool, List, [], ◌∷◌, ◌++◌, length, map, take, Option, Some, append_assoc, refl, ap, sym, subst, ◌∙◌, arith}
use Rattle.std.specs.Prelude.{slice_get}
use Rattle.std.specs.List.{enumerate_from, flat_map}
use Rattle.std.proofs.lemmas.Grind.{flat_map-append}
use Rattle.std.proofs.lemmas.List.{append-nil, length_push}
use Rattle.design_core.proofs.Lists.{one_at}
use Rattle.design_core.specs.Places.{place_of, places}
use Rattle.design_core.specs.Shape.{CellOf, DesignOf}
use Rattle.design_graph.specs.declared.driver.Driver.{Driver}
use Rattle.design_meaning.specs.Meaning.{asserts, assumes, covers}
use Rattle.design_meaning.specs.Runs.{kept_bits}
use Rattle.design_meaning.specs.States.{input_bits}
use Rattle.model_core.specs.Shape.{ModelOf, NodeOf, RegisterOf}
use Rattle.model_core.proofs.Lists.{push-either}
use Rattle.word_model.specs.Built.{IsBuilt, statement_of}
use Rattle.word_model.specs.Layout.{zero_place}
use Rattle.word_model.specs.Nodes.{AreNodes, IsNodeOf}
use Rattle.word_model.specs.Registers.{AreDigits, AreStarts, registers_of}
use Rattle.word_model.proofs.Listing.{take-next}

pub no-nodes : (d : DesignOf) (order : List Driver) (nodes : List NodeOf) → nodes ≡ [] → AreNodes d order 0 nodes
no-nodes d order nodes e = record { size = ap length e; each = λ k r n at h. absurd (none k n (subst (λ (l : List NodeOf). slice_get l k ≡ Some n) e h)) }
  where
    none : (k : ℕ) (n : NodeOf) → slice_get (let xs : List NodeOf = [] in xs) k ≡ Some n → ⊥
    none k n h = cc

pub nodes-next : (d : DesignOf) (order : List Driver) (k : ℕ) (nodes : List NodeOf) (r : Driver) (n : NodeOf) → AreNodes d order k nodes → slice_get order k ≡ Some r → IsNodeOf d r n → AreNodes d order (k + 1) (nodes ++ n ∷ [])
nodes-next d order k nodes r n are at is = record {
  size = omega (arith, length_push nodes n, are.size);
  each = λ l s y there h. elim (push-either nodes n y l h) as (λ _. IsNodeOf d s y) [
    | inl old ↦ are.each l s y there old
    | inr new ↦
        let place : l ≡ k = new.0 ∙ are.size in
        let driver : s ≡ r = one_at order k s r (subst (λ (j : ℕ). slice_get order j ≡ Some s) place there) at in
        subst (λ (q : Driver). IsNodeOf d q y) (sym driver) (subst (λ (z : NodeOf). IsNodeOf d r z) (sym new.1) is)
  ];
}

listed-last : {X : Type 0} (n : ℕ) (xs : List X) (x : X) (k : ℕ) → k ≡ n + length xs → enumerate_from n (xs ++ x ∷ []) ≡ enumerate_from n xs ++ (k, x) ∷ []
listed-last n [] x k e = let same : n ≡ k = omega (arith, e) in ap (λ (j : ℕ). (j, x) ∷ []) same
listed-last {X = X} n (y ∷ xs) x k e = ap (λ (l : List (ℕ × X)). (n, y) ∷ l) (listed-last (n + 1) xs x k (omega (arith, e)))

taken-long : {X : Type 0} (xs : List X) (k : ℕ) (x : X) → slice_get xs k ≡ Some x → length (take k xs) ≡ k
taken-long [] k x h = absurd cc
taken-long (y ∷ xs) zero x h = refl
taken-long (y ∷ xs) (suc k) x h = ap suc (taken-long xs k x h)

pub cells-next : (cells : List CellOf) (k : ℕ) (x : CellOf) → slice_get cells k ≡ Some x → enumerate_from 0 (take (k + 1) cells) ≡ enumerate_from 0 (take k cells) ++ (k, x) ∷ []
cells-next cells k x at =
    ap (λ (l : List CellOf). enumerate_from 0 l) (take-next cells k x at) ∙ listed-last 0 (take k cells) x k (let e = taken-long cells k x at in omega (arith, e))

pub registers-next : (d : DesignOf) (k : ℕ) (x : CellOf) (registers : List RegisterOf) → slice_get d.cells k ≡ Some x → registers ≡ flat_map (registers_of d) (enumerate_from 0 (take k d.cells))
    → registers ++ registers_of d (k, x) ≡ flat_map (registers_of d) (enumerate_from 0 (take (k + 1) d.cells))
registers-next d k x registers at e =
    ap (λ (l : List RegisterOf). l ++ registers_of d (k, x)) e
    ∙ (ap (λ (l : List RegisterOf). flat_map (registers_of d) (enumerate_from 0 (take k d.cells)) ++ l) (sym (append-nil (registers_of d (k, x))))
    ∙ (sym (flat_map-append (registers_of d) (enumerate_from 0 (take k d.cells)) ((k, x) ∷ [])) ∙ ap (λ (l : List (ℕ × CellOf)). flat_map (registers_of d) l) (sym (cells-next d.cells k x at))))

starts-last : (d : DesignOf) (es : List (ℕ × CellOf)) (starts digits : List (Option Bool)) (i : ℕ) (x : CellOf) → AreStarts d es starts → AreDigits d i x digits → AreStarts d (es ++ (i, x) ∷ []) (starts ++ digits)
starts-last d [] starts digits i x are new = (digits, [], ap (λ (l : List (Option Bool)). l ++ digits) are ∙ sym (append-nil digits), new, refl)
starts-last d ((j, y) ∷ es) starts digits i x are new =
    (are.0, are.1 ++ digits, ap (λ (l : List (Option Bool)). l ++ digits) are.2 ∙ append_assoc are.0 are.1 digits, are.3, starts-last d es are.1 digits i x are.4 new)

pub starts-next : (d : DesignOf) (k : ℕ) (x : CellOf) (starts digits : List (Option Bool)) → slice_get d.cells k ≡ Some x → AreStarts d (enumerate_from 0 (take k d.cells)) starts → AreDigits d k x digits
    → AreStarts d (enumerate_from 0 (take (k + 1) d.cells)) (starts ++ digits)
starts-next d k x starts digits at are new =
    subst (λ (l : List (ℕ × CellOf)). AreStarts d l (starts ++ digits)) (sym (cells-next d.cells k x at)) (starts-last d (enumerate_from 0 (take k d.cells)) starts digits k x are new)

-- all parts together
pub built-is : (d : DesignOf) (order : List Driver) (size : ℕ) (nodes : List NodeOf) (starts : List (Option Bool)) (m1 m2 m3 m4 m5 m6 : ModelOf) → size < 2 ^ 32 → size ≡ places d + kept_bits d → AreNodes d order (length order) nodes
    → AreStarts d (enumerate_from 0 d.cells) starts
    → m1 ≡ record { size = size; zero = zero_place d; nodes = nodes; registers = []; starts = []; inputs = []; asserts = []; assumes = []; covers = [] }
    → m2 ≡ record m1 { registers = flat_map (registers_of d) (enumerate_from 0 d.cells); starts = starts }
    → m3 ≡ record m2 { inputs = m2.inputs ++ map (place_of d) (input_bits d) }
    → m4 ≡ record m3 { asserts = m3.asserts ++ map (statement_of d) (asserts d) }
    → m5 ≡ record m4 { assumes = m4.assumes ++ map (statement_of d) (assumes d) }
    → m6 ≡ record m5 { covers = m5.covers ++ map (statement_of d) (covers d) } → IsBuilt d order m6
built-is d order size nodes starts m1 m2 m3 m4 m5 m6 limit is are begin e1 e2 e3 e4 e5 e6 =
    let f2 : ModelOf → ModelOf = λ z. record z { registers = flat_map (registers_of d) (enumerate_from 0 d.cells); starts = starts } in
    let f3 : ModelOf → ModelOf = λ z. record z { inputs = z.inputs ++ map (place_of d) (input_bits d) } in
    let f4 : ModelOf → ModelOf = λ z. record z { asserts = z.asserts ++ map (statement_of d) (asserts d) } in
    let f5 : ModelOf → ModelOf = λ z. record z { assumes = z.assumes ++ map (statement_of d) (assumes d) } in
    let f6 : ModelOf → ModelOf = λ z. record z { covers = z.covers ++ map (statement_of d) (covers d) } in
    subst (λ (z : ModelOf). IsBuilt d order z) (sym (e6 ∙ ap f6 (e5 ∙ ap f5 (e4 ∙ ap f4 (e3 ∙ ap f3 (e2 ∙ ap f2 e1))))))
    (record { limit = limit; size = is; zero = refl; nodes = are; registers = refl; starts = begin; inputs = refl; asserts = refl; assumes = refl; covers = refl })

pub rest-nodes : (m old new : ModelOf) (ns : List NodeOf) → old ≡ record m { nodes = old.nodes } → new ≡ record old { nodes = ns } → new ≡ record m { nodes = new.nodes }
rest-nodes m old new ns before e =
    e
    ∙ (ap (λ (z : ModelOf). record z { nodes = ns }) before ∙ ap (λ (l : List NodeOf). record m { nodes = l }) (sym (ap (λ (z : ModelOf). z.nodes) e)))

pub rest-registers : (m old new : ModelOf) (rs : List RegisterOf) (ss : List (Option Bool)) → old ≡ record m { registers = old.registers; starts = old.starts } → new ≡ record old { registers = rs; starts = ss }
    → new ≡ record m { registers = new.registers; starts = new.starts }
rest-registers m old new rs ss before e =
    e
    ∙ (ap (λ (z : ModelOf). record z { registers = rs; starts = ss }) before
    ∙ (ap (λ (l : List RegisterOf). record m { registers = l; starts = ss }) (sym (ap (λ (z : ModelOf). z.registers) e))
    ∙ ap (λ (l : List (Option Bool)). record m { registers = new.registers; starts = l }) (sym (ap (λ (z : ModelOf). z.starts) e))))
