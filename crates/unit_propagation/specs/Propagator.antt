-- What a propagator holds.
use Rattle.std.specs.Prelude.{◌≡◌, ◌⊎◌, ℕ, Bool, true, false, List, [], ◌∷◌, ◌++◌, length, map, Option, Some, None, Contains, slice_index_or}
use Rattle.cnf_form.specs.Cnf.{LitOf, negate}
use Rattle.unit_propagation.specs.declared.outcome.Outcome.{Outcome}
use Rattle.unit_propagation.specs.declared.outcome.Outcome.TheVariants.{Complete, Falsified, Opposed}
use Rattle.unit_propagation.specs.Propagation.{IsConsistent, IsFalsified, HasFalsified, Propagates}

-- The clause at each number, if it wasn't removed; the trail; how long it was when each level began; and whether a clause
-- or an assumption is falsified.
pub record PropagatorOf : Type 0 where
  pub vars : ℕ
  pub slots : List (Option (List LitOf))
  pub trail : List LitOf
  pub limits : List ℕ
  pub conflict : Bool

-- the clauses that weren't removed, in order
abbrev pub clauses_of : List (Option (List LitOf)) → List (List LitOf)
clauses_of [] = []
clauses_of (Some c ∷ ss) = c ∷ clauses_of ss
clauses_of (None ∷ ss) = clauses_of ss

-- the slots of those clauses alone
abbrev pub present : List (Option (List LitOf)) → List (Option (List LitOf))
present slots = map (λ (c : List LitOf). Some c) (clauses_of slots)

-- the clause at a number
abbrev pub slot_at : List (Option (List LitOf)) → ℕ → Option (List LitOf)
slot_at slots k = slice_index_or slots k None

-- the slots are the same, but for a number that is used up
abbrev pub Same : List (Option (List LitOf)) → List (Option (List LitOf)) → Type 0
Same old new = (new ≡ old) ⊎ (new ≡ old ++ None ∷ [])

-- the clause was added, and what follows is true; after a conflict nothing is propagated any more
pub record IsAdded (old : PropagatorOf) (c : List LitOf) (new : PropagatorOf) : Type 0 where
  pub vars : new.vars ≡ old.vars
  pub slots : new.slots ≡ old.slots ++ Some c ∷ []
  pub limits : new.limits ≡ old.limits
  pub after : old.conflict ≡ true → (new.trail ≡ old.trail) × (new.conflict ≡ true)
  pub propagated : old.conflict ≡ false → Propagates (clauses_of new.slots) old.trail new.trail
  pub falsified : old.conflict ≡ false → new.conflict ≡ true → HasFalsified new.trail (clauses_of new.slots)

-- The trail grew by literals of the list alone, and stays consistent.
pub record Assumes (lits s t : List LitOf) : Type 0 where
  pub added : List LitOf
  pub grown : t ≡ s ++ added
  pub only : (l : LitOf) → Contains added l → Contains lits l
  pub consistent : IsConsistent s → IsConsistent t

-- a level was opened, literals of the list were assumed, and what follows from them is true
pub record IsAssumed (old : PropagatorOf) (lits : List LitOf) (new : PropagatorOf) : Type 0 where
  pub vars : new.vars ≡ old.vars
  pub slots : new.slots ≡ old.slots
  pub limits : new.limits ≡ old.limits ++ length old.trail ∷ []
  pub assumed : List LitOf
  pub assumes : Assumes lits old.trail assumed
  pub propagated : Propagates (clauses_of old.slots) assumed new.trail

-- whether an outcome is a conflict
abbrev pub is_conflict : Outcome → Bool
is_conflict Complete = false
is_conflict (Falsified k) = true
is_conflict Opposed = true

-- how it ended: all literals are true and nothing is left to do, a clause is falsified, or an assumption is false
abbrev pub EndsAssumed : PropagatorOf → List LitOf → Outcome → Type 0
EndsAssumed new lits Complete = (l : LitOf) → Contains lits l → Contains new.trail l
EndsAssumed new lits (Falsified k) = (c : List LitOf) × (slot_at new.slots k ≡ Some c) × IsFalsified new.trail c
EndsAssumed new lits Opposed = (l : LitOf) × Contains lits l × Contains new.trail (negate l)

-- a level was opened, the literal was made true, and what follows from it is true
pub record IsDecided (old : PropagatorOf) (l : LitOf) (new : PropagatorOf) : Type 0 where
  pub vars : new.vars ≡ old.vars
  pub slots : new.slots ≡ old.slots
  pub limits : new.limits ≡ old.limits ++ length old.trail ∷ []
  pub propagated : Propagates (clauses_of old.slots) (old.trail ++ l ∷ []) new.trail

-- how it ended: nothing is left to do, or a clause is falsified
abbrev pub EndsDecided : PropagatorOf → Option ℕ → Type 0
EndsDecided new None = new.conflict ≡ false
EndsDecided new (Some k) = (new.conflict ≡ true) × ((c : List LitOf) × (slot_at new.slots k ≡ Some c) × IsFalsified new.trail c)

-- memory ran out: only a number may be used up
abbrev pub IsOutOfMemory : PropagatorOf → PropagatorOf → Type 0
IsOutOfMemory old new = Same old.slots new.slots × (new ≡ record old { slots = new.slots })
