-- State bits by numbers, in a table of places.
use Rattle.std.proofs.Common.{◌≡◌, ℕ, zero, suc, ◌<◌, ◌≤◌, true, false, List, [], ◌∷◌, ◌++◌, Option, Some, None, length, map, set, replicate, get_or, refl, sym, ap, ◌∙◌, subst, inl, inr, arith, eqb}
use Rattle.std.specs.Prelude.{Contains, slice_get}
use Rattle.std.specs.List.{IsDistinct as all_distinct, list_any}
use Rattle.std.proofs.lemmas.Bool.{cases_eq, eqb-true}
use Rattle.std.proofs.lemmas.Map.Keys.{IsDistinct-from_apart}
use Rattle.std.proofs.lemmas.Map.Steps.{length-le_from_distinct_below}
use Rattle.std.proofs.lemmas.Option.{slice_get-get_or, slice_get_within}
use Rattle.bit_net.proofs.Lists.{head_in, not_both, or_cases, tail_in}
use Rattle.model_core.specs.Served.{IsModel}
use Rattle.model_core.specs.Shape.{IsDistinct, ModelOf, given, sources, states}
use Rattle.model_core.proofs.Lists.{all_at, app_left, place_of_contained}
use Rattle.frame_gates.proofs.Lists.{length_map, one_at}
use Rattle.net_pair.specs.Numbers.{HaveStates, IsTableOf, state_by}
use Rattle.net_pair.proofs.Placing.{map_back}

state_by_set : (table : List (Option ℕ)) (place : ℕ) (o : Option ℕ) → place < length table → state_by (set table place o) place ≡ o
state_by_set [] place o h = absurd (omega arith)
state_by_set (t ∷ table) zero o h = refl
state_by_set (t ∷ table) (suc place) o h = state_by_set table place o (omega arith)

state_by_other : (table : List (Option ℕ)) (place other : ℕ) (o : Option ℕ) → (other ≡ place → ⊥) → state_by (set table place o) other ≡ state_by table other
state_by_other [] place other o h = refl
state_by_other (t ∷ table) zero zero o h = absurd (h refl)
state_by_other (t ∷ table) zero (suc other) o h = refl
state_by_other (t ∷ table) (suc place) zero o h = refl
state_by_other (t ∷ table) (suc place) (suc other) o h = state_by_other table place other o (λ e. h (ap suc e))

state_by_none : (count place : ℕ) → state_by (replicate count None) place ≡ None
state_by_none zero place = refl
state_by_none (suc count) zero = refl
state_by_none (suc count) (suc place) = state_by_none count place

-- the table has the states of the first places
pub record IsTableTo (places : List ℕ) (count : ℕ) (table : List (Option ℕ)) : Type 0 where
  pub some : (place k : ℕ) → state_by table place ≡ Some k → slice_get places k ≡ Some place
  pub all : (k place : ℕ) → k < count → slice_get places k ≡ Some place → (j : ℕ) × (state_by table place ≡ Some j)

pub table_begins : (places : List ℕ) (count : ℕ) → IsTableTo places 0 (replicate count None)
table_begins places count = record {
  some = λ place k h. absurd (let z : None ≡ Some k = sym (state_by_none count place) ∙ h in cc);
  all = λ k place h at. absurd (omega arith);
}

pub table_more : (places : List ℕ) (count place : ℕ) (table : List (Option ℕ)) → IsTableTo places count table → slice_get places count ≡ Some place → place < length table → IsTableTo places (suc count) (set table place (Some count))
table_more places count place table old at inside = record {
  some = λ other k h. elim (cases_eq other place) as (λ _. slice_get places k ≡ Some other) [
    | inl e ↦
        let z : Some count ≡ Some k = sym (state_by_set table place (Some count) inside) ∙ ap (state_by (set table place (Some count))) (sym e) ∙ h in
        let here : count ≡ k = cc in
        ap (slice_get places) (sym here) ∙ at ∙ ap Some (sym e)
    | inr ne ↦ old.some other k (sym (state_by_other table place other (Some count) ne) ∙ h)
  ];
  all = λ k other h here. elim (cases_eq other place) as (λ _. (j : ℕ) × (state_by (set table place (Some count)) other ≡ Some j)) [
    | inl e ↦ (count, ap (state_by (set table place (Some count))) e ∙ state_by_set table place (Some count) inside)
    | inr ne ↦ elim (cases_eq k count) as (λ _. (j : ℕ) × (state_by (set table place (Some count)) other ≡ Some j)) [
      | inl e ↦ absurd (ne (one_at places count other place (ap (slice_get places) (sym e) ∙ here) at))
      | inr other_k ↦ let (j, q) = old.all k other (omega arith) here in (j, state_by_other table place other (Some count) ne ∙ q)
    ]
  ];
}

pub table_whole : (places : List ℕ) (count : ℕ) (table : List (Option ℕ)) → length places ≤ count → IsTableTo places count table → IsTableOf places table
table_whole places count table whole t = record {
  some = t.some;
  all = λ place c. (let (k, at) = place_of_contained places place c in let l = slice_get_within places k place at in t.all k place (omega arith) at);
}

-- bits that a table has at places
pub from_table : (held places : List ℕ) (table : List (Option ℕ)) → IsTableOf held table → HaveStates held places (map (state_by table) places)
from_table held places table t = record {
  size = length_map (state_by table) places;
  some = λ n k h. (let (place, at, e) = map_back (state_by table) places n (Some k) h in (place, at, t.some place k e));
  none = λ n place h at c.
      let (other, there, e) = map_back (state_by table) places n None h in
      let (k, q) = t.all place c in
      let z : None ≡ Some k = sym e ∙ ap (state_by table) (one_at places n other place there at) ∙ q in
      cc;
}

-- there are no more states than places
apart : (xs : List ℕ) → IsDistinct xs → all_distinct eqb xs
apart xs d = IsDistinct-from_apart eqb xs (λ i j e l m. not_both (eqb (get_or xs i e) (get_or xs j e)) (λ q.
    (let same : get_or xs i e ≡ get_or xs j e = eqb-true (get_or xs i e) (get_or xs j e) q in
    let z = d i j (get_or xs i e) (slice_get-get_or xs i e (omega arith)) (slice_get-get_or xs j e m ∙ ap Some (sym same)) in
    omega arith)))

-- a state bit's place is one of the model's
inside : (m : ModelOf) (k p : ℕ) → slice_get (states m) k ≡ Some p → slice_get (sources m ++ given m.nodes) (suc (suc k)) ≡ Some p
inside m k p at = app_left (states m ++ m.inputs) (given m.nodes) k p (app_left (states m) m.inputs k p at)

pub place_below : (m : ModelOf) (k p : ℕ) → IsModel m → slice_get (states m) k ≡ Some p → p < m.size
place_below m k p is at = all_at (λ (r : ℕ). r < m.size) (sources m ++ given m.nodes) (suc (suc k)) p is.below (inside m k p at)

pub states_few : (m : ModelOf) → IsModel m → length (states m) ≤ m.size
states_few m is = length-le_from_distinct_below (states m) m.size (apart (states m) distinct) below
  where
    distinct : IsDistinct (states m)
    distinct i j p a b = let z = is.once (suc (suc i)) (suc (suc j)) p (inside m i p a) (inside m j p b) in omega arith

    any_in : (ps : List ℕ) (r : ℕ) → list_any (eqb r) ps ≡ true → (p : ℕ) × Contains ps p × (r ≡ p)
    any_in [] r k = absurd (let z : false ≡ true = k in cc)
    any_in (p ∷ ps) r k = elim (or_cases (eqb r p) (list_any (eqb r) ps) k) as (λ _. (o : ℕ) × Contains (p ∷ ps) o × (r ≡ o)) [
      | inl e ↦ (p, head_in p ps, eqb-true r p e)
      | inr t ↦ let (o, c, e) = any_in ps r t in (o, tail_in p o ps c, e)
    ]

    below : (q : ℕ) → list_any (eqb q) (states m) ≡ true → q < m.size
    below q h =
        let (p, c, e) = any_in (states m) q h in
        let (k, at) = place_of_contained (states m) p c in
        subst (λ (r : ℕ). r < m.size) (sym e) (place_below m k p is at)
