-- The values of cycles as assignments.
use Rattle.std.proofs.Common.{◌≡◌, ◌⊎◌, ℕ, zero, suc, ◌+◌, ◌<◌, Bool, true, List, [], ◌∷◌, length, get_or, refl, ap, sym, subst, inl, inr, arith}
use Rattle.std.specs.Prelude.{Option, Some, None, slice_get, slice_index_or}
use Rattle.std.specs.declared.vec.Vec.{Vec}
use Rattle.std.proofs.lemmas.Option.{slice_get_read}
use Rattle.cnf_form.specs.Cnf.{Assignment, Satisfies, lit_in}
use Rattle.cdcl_core.specs.Solving.{valued}
use Rattle.pair_form.specs.Pair.{PairOf}
use Rattle.pair_form.specs.declared.pair.BitLits.{BitLits}
use Rattle.pdr_run.specs.Breaking.{Breaks, Follows}
use Rattle.pdr_run.specs.Deciding.{cycle_at, valued_by}

last_or_below : (j n : ℕ) → j < n + 1 → (j < n) ⊎ (j ≡ n)
last_or_below zero zero h = inr refl
last_or_below zero (suc n) h = inl (omega arith)
last_or_below (suc j) zero h = absurd (omega (arith, h))
last_or_below (suc j) (suc n) h = elim (last_or_below j n (omega (arith, h))) [ inl l ↦ inl (omega (arith, l)) | inr e ↦ inr (ap suc e) ]

-- what is so up to a place, and there
pub one_more : (P : ℕ → Type 0) (n : ℕ) → ((i : ℕ) → i < n → P i) → P n → (i : ℕ) → i < n + 1 → P i
one_more P n before here i h = elim (last_or_below i n h) [ inl l ↦ before i l | inr e ↦ subst P (sym e) here ]

-- the values of the cycle at a place
pub cycle_is : {X : Type 0} (cycles : List (Vec Bool X)) (i : ℕ) (values : Vec Bool X) → i < length cycles → values ≡ get_or cycles i values → cycle_at cycles i ≡ valued values.items
cycle_is cycles i values h e = ap valued_by (slice_get_read cycles (length cycles) i values refl h e)

-- a bit that has literals stands in the list
pub bit_there : (bits : List (Option BitLits)) (n : ℕ) (b : BitLits) → slice_index_or bits n None ≡ Some b → slice_get bits n ≡ Some (Some b)
bit_there [] n b h = absurd (let z : ◌≡◌ {A = Option BitLits} None (Some b) = h in cc)
bit_there (x ∷ bs) zero b h = ap Some h
bit_there (x ∷ bs) (suc n) b h = bit_there bs n b h

-- the parts of a run
pub broken : {X : Type 0} (p : PairOf) (cycles : List (Vec Bool X)) (first last : Assignment) → 0 < length cycles → cycle_at cycles 0 ≡ first → ((i : ℕ) → i + 1 ≡ length cycles → cycle_at cycles i ≡ last)
    → lit_in first p.start ≡ true → lit_in last p.bad ≡ true
    → ((i : ℕ) → i < length cycles → Satisfies (cycle_at cycles i) p.formula.clauses) → ((i : ℕ) → i + 1 < length cycles → Follows p (cycle_at cycles i) (cycle_at cycles (i + 1))) → Breaks p (length cycles)
broken p cycles first last some e f starts ends satisfied follow = record {
  cycles = cycle_at cycles;
  some = some;
  formula = satisfied;
  start = subst (λ x. lit_in x p.start ≡ true) (sym e) starts;
  follows = follow;
  bad = λ i h. subst (λ x. lit_in x p.bad ≡ true) (sym (f i h)) ends;
}

-- the values that a look gave
pub cycle_got : {X : Type 0} (cycles : List (Vec Bool X)) (i : ℕ) (values : Vec Bool X) → Some values ≡ slice_get cycles i → cycle_at cycles i ≡ valued values.items
cycle_got cycles i values e = sym (ap valued_by e)
