-- Gates at the places of their variables.
use Rattle.std.proofs.Common.{◌≡◌, ℕ, zero, suc, ◌+◌, ◌-◌, ◌<◌, ◌≤◌, true, List, [], ◌∷◌, Some, None, refl, sym, ap, ◌∙◌, subst, inl, inr, arith, length, set}
use Rattle.std.specs.Prelude.{slice_get, Contains}
use Rattle.std.proofs.lemmas.Bool.{cases_eq, cases_lt}
use Rattle.std.proofs.lemmas.List.{length-set}
use Rattle.std.proofs.lemmas.Option.{slice_get_within}
use Rattle.cnf_form.specs.Cnf.{LitOf}
use Rattle.gate_graph.specs.declared.gate.Gate.{Gate}
use Rattle.gate_graph.specs.Kept.{lit_of}
use Rattle.model_core.proofs.Lists.{all_at, contained_at, place_of_contained}
use Rattle.frame_gates.proofs.Lists.{one_at}
use Rattle.frame_net.specs.Making.{AreInOrder, HasEach}

-- the first entries stand at the places of their variables
pub record ArePut (kept : List (Gate × LitOf)) (first count index : ℕ) (gates : List Gate) : Type 0 where
  pub size : length gates ≡ count
  pub each : (k i : ℕ) (e : Gate × LitOf) (g : Gate) → i < index → slice_get kept i ≡ Some e → e.1.var ≡ first + k → slice_get gates k ≡ Some g → Contains kept (g, lit_of (first + k) true)

set_cases : (xs : List Gate) (i k : ℕ) (x y : Gate) → slice_get (set xs i x) k ≡ Some y → (k ≡ i → y ≡ x) × ((k ≡ i → ⊥) → slice_get xs k ≡ Some y)
set_cases [] i k x y h = absurd (let z : None ≡ Some y = h in cc)
set_cases (z ∷ xs) zero zero x y h = ((λ _. let q : Some x ≡ Some y = h in cc), (λ no. absurd (no refl)))
set_cases (z ∷ xs) zero (suc k) x y h = ((λ e. absurd (omega arith)), (λ no. h))
set_cases (z ∷ xs) (suc i) zero x y h = ((λ e. absurd (omega arith)), (λ no. h))
set_cases (z ∷ xs) (suc i) (suc k) x y h = let (a, b) = set_cases xs i k x y h in ((λ e. a (omega arith)), (λ no. b (λ e. no (ap suc e))))

pub put_none : (kept : List (Gate × LitOf)) (first count : ℕ) (gates : List Gate) → length gates ≡ count → ArePut kept first count 0 gates
put_none kept first count gates e = record { size = e; each = λ k i d g h at v here. absurd (omega arith) }

pub put_more : (kept : List (Gate × LitOf)) (first count index place : ℕ) (entry : Gate × LitOf) (gates : List Gate) → HasEach kept first count → slice_get kept index ≡ Some entry → place ≡ entry.1.var - first →
    ArePut kept first count index gates → ArePut kept first count (index + 1) (set gates place entry.0)
put_more kept first count index place entry gates has at is put = record {
  size = length-set gates place entry.0 ∙ put.size;
  each = λ k i e g h here v found. by k i e g h here v found;
}
  where
    within : (first ≤ entry.1.var) × (entry.1.var < first + count)
    within = all_at (λ (e : Gate × LitOf). (first ≤ e.1.var) × (e.1.var < first + count)) kept index entry has.within at

    by : (k i : ℕ) (e : Gate × LitOf) (g : Gate) → i < index + 1 → slice_get kept i ≡ Some e → e.1.var ≡ first + k → slice_get (set gates place entry.0) k ≡ Some g → Contains kept (g, lit_of (first + k) true)
    by k i e g h here v found =
        let (same, other) = set_cases gates place k entry.0 g found in
        let (lo, hi) = within in
        elim (cases_eq k place) as (λ _. Contains kept (g, lit_of (first + k) true)) [
          | inl q ↦
              let var : entry.1.var ≡ first + k = omega arith in
              let lit : entry.1 ≡ lit_of (first + k) true = all_at (λ (d : Gate × LitOf). d.1 ≡ lit_of d.1.var true) kept index entry has.plain at ∙ ap (λ (w : ℕ). lit_of w true) var in
              subst (λ (d : Gate × LitOf). Contains kept d)
              (let z : entry ≡ (g, lit_of (first + k) true) = ap (λ (l : LitOf). let d : Gate × LitOf = (entry.0, l) in d) lit ∙ ap (λ (j : Gate). let d : Gate × LitOf = (j, lit_of (first + k) true) in d) (sym (same q)) in z)
              (contained_at kept entry index at)
          | inr n ↦ elim (cases_lt i index) as (λ _. Contains kept (g, lit_of (first + k) true)) [
            | inl l ↦ put.each k i e g l here v (other n)
            | inr m ↦
                let z : i ≡ index = omega arith in
                let w : e ≡ entry = one_at kept index e entry (subst (λ (j : ℕ). slice_get kept j ≡ Some e) z here) at in
                absurd (n (let u : entry.1.var ≡ first + k = subst (λ (d : Gate × LitOf). d.1.var ≡ first + k) w v in omega arith))
          ]
        ]

pub put_all : (kept : List (Gate × LitOf)) (first count index : ℕ) (gates : List Gate) → HasEach kept first count → length kept ≤ index → ArePut kept first count index gates → AreInOrder kept first count gates
put_all kept first count index gates has all put = record {
  size = put.size;
  each = λ k g here.
      let l = slice_get_within gates k g here in
      let n = put.size in
      let (j, c) = has.each k (omega arith) in
      let (i, at) = place_of_contained kept (j, lit_of (first + k) true) c in
      let m = slice_get_within kept i (j, lit_of (first + k) true) at in
      put.each k i (j, lit_of (first + k) true) g (omega arith) at refl here;
}

pub place_inside : (kept : List (Gate × LitOf)) (first count index : ℕ) (entry : Gate × LitOf) → HasEach kept first count → slice_get kept index ≡ Some entry → (first ≤ entry.1.var) × (entry.1.var < first + count)
place_inside kept first count index entry has at = all_at (λ (e : Gate × LitOf). (first ≤ e.1.var) × (e.1.var < first + count)) kept index entry has.within at
