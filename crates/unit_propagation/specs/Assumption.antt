-- What assumptions leave.
use Rattle.std.specs.Prelude.{◌≡◌, ℕ, ◌<◌, List, length, Option, Some, Result, Ok, Err, Contains, slice_index_or}
use Rattle.std.specs.declared.alloc.AllocError.{AllocError}
use Rattle.cnf_form.specs.Cnf.{LitOf, negate}
use Rattle.unit_propagation.specs.declared.watch.Head.{Head}
use Rattle.unit_propagation.specs.declared.watch.Watch.{Watch}
use Rattle.unit_propagation.specs.declared.outcome.Outcome.{Outcome}
use Rattle.unit_propagation.specs.declared.outcome.Outcome.TheVariants.{Complete, Falsified, Opposed}
use Rattle.unit_propagation.specs.Propagation.{IsFalsified}
use Rattle.unit_propagation.specs.Propagator.{slot_at, Assumes}
use Rattle.unit_propagation.specs.Visit.{State, IsKept, AllKept, IsFiled, Walks}

-- literals were assumed, and a run of propagation followed
pub record AssumeWalks (slots : List (Option (List LitOf))) (pairs : List (List Watch)) (old new : State) (lits : List LitOf) : Type 0 where
  pub assumed : List LitOf
  pub assumes : Assumes lits old.trail assumed
  pub walks : Walks slots pairs (record old { trail = assumed }) new

abbrev pub AssumeFits : List (Option (List LitOf)) → List (List Watch) → State → State → List LitOf → Result Outcome AllocError → Type 0
AssumeFits slots pairs old new lits (Ok Complete) = AssumeWalks slots pairs old new lits × AllKept new.trail new.trail slots new.heads × ((l : LitOf) → Contains lits l → Contains new.trail l)
AssumeFits slots pairs old new lits (Ok (Falsified k)) = AssumeWalks slots pairs old new lits × (c : List LitOf) × (slot_at slots k ≡ Some c) × IsFalsified new.trail c
AssumeFits slots pairs old new lits (Ok Opposed) = AssumeWalks slots pairs old new lits × (l : LitOf) × Contains lits l × Contains new.trail (negate l)
AssumeFits slots pairs old new lits (Err e) = IsFiled slots new pairs × (new.trail ≡ old.trail)
    × ((j : ℕ) (d : Head) → j < length new.heads → (b : List LitOf) → ((l : LitOf) → Contains b l → Contains old.trail l) → IsKept b b (slot_at slots j) (slice_index_or old.heads j d) → IsKept b b (slot_at slots j) (slice_index_or new.heads j d))
