-- What the levels of a propagator hold.
use Rattle.std.specs.Prelude.{◌≡◌, ◌⊎◌, ℕ, ◌+◌, ◌-◌, ◌<◌, true, false, List, [], length, take, Option, Some, None, Contains, slice_index_or}
use Rattle.cnf_form.specs.Cnf.{LitOf, LitWithin}
use Rattle.cdcl_core.specs.declared.search.Found.{Found}
use Rattle.cdcl_core.specs.declared.search.Found.TheVariants.{Assigned, Refuted, Falsified}
use Rattle.unit_propagation.specs.Propagation.{ContainsAll, IsDerived, IsFalsified, HasFalsified}
use Rattle.unit_propagation.specs.Propagator.{PropagatorOf, clauses_of, slot_at}

-- whatever clauses have those of F, and derive what is in s, derive what is in t
pub record Follows (F : List (List LitOf)) (s t : List LitOf) : Type 0 where
  pub derived : (G : List (List LitOf)) → ContainsAll F G → IsDerived G s → IsDerived G t

-- where a level ends: where the next begins, or at the trail's end
abbrev pub end_of : PropagatorOf → ℕ → ℕ
end_of p level = slice_index_or p.limits level (length p.trail)

-- where the last level begins
abbrev pub base_of : PropagatorOf → ℕ
base_of p = slice_index_or p.limits (length p.limits - 1) 0

-- Level 0 follows from the clauses alone, and each other level from its decision, which is its first literal, and what was true
-- before; all literals are of the variables.
pub record IsJustified (p : PropagatorOf) : Type 0 where
  pub root : Follows (clauses_of p.slots) [] (take (end_of p 0) p.trail)
  pub level : (i : ℕ) → i < length p.limits → Follows (clauses_of p.slots) (take (end_of p i + 1) p.trail) (take (end_of p (i + 1)) p.trail)
  pub strict : (i : ℕ) → i < length p.limits → end_of p i < end_of p (i + 1)
  pub within : (l : LitOf) → Contains p.trail l → LitWithin p.vars l

-- a falsified clause is known by its number, or one is at level 0, or none is
abbrev pub IsPending : PropagatorOf → Option ℕ → Type 0
IsPending p None = (p.conflict ≡ false) ⊎ ((p.conflict ≡ true) × (p.limits ≡ []) × HasFalsified p.trail (clauses_of p.slots))
IsPending p (Some k) = (p.conflict ≡ true) × ((c : List LitOf) × (slot_at p.slots k ≡ Some c) × IsFalsified p.trail c)

-- what a search on levels finds: no clause is falsified, one is at level 0, or one is above
abbrev pub FoundFits : PropagatorOf → Found → Type 0
FoundFits p Assigned = p.conflict ≡ false
FoundFits p Refuted = (p.limits ≡ []) × HasFalsified p.trail (clauses_of p.slots)
FoundFits p (Falsified k) = (0 < length p.limits) × IsPending p (Some k)
