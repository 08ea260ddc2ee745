-- What holds of a propagator's fields.
use Rattle.std.specs.Prelude.{◌≡◌, ℕ, ◌^◌, ◌<◌, ◌≤◌, Bool, false, List, length, take, Option, Some, Contains, slice_index_or}
use Rattle.cnf_form.specs.Cnf.{LitOf, ClauseWithin}
use Rattle.unit_propagation.specs.declared.watch.Watch.{Watch}
use Rattle.unit_propagation.specs.Propagation.{IsConsistent}
use Rattle.unit_propagation.specs.Propagator.{slot_at}
use Rattle.unit_propagation.specs.Visit.{State, AllKept, IsFiled}

-- the parts agree on the number of variables and of clauses
pub record Agree (vars store lists pairs trail in_lists in_pairs count : ℕ) : Type 0 where
  pub limit : vars ≤ 2 ^ 27
  pub store_vars : store ≡ vars
  pub lists_vars : lists ≡ vars
  pub pairs_vars : pairs ≡ vars
  pub trail_vars : trail ≡ vars
  pub lists_clauses : in_lists ≡ count
  pub pairs_clauses : in_pairs ≡ count

-- Clauses are filed, and kept at each prefix of the trail that a level ends; and, without a conflict, at the trail.
pub record IsPropagator (vars : ℕ) (slots : List (Option (List LitOf))) (s : State) (pairs : List (List Watch)) (limits : List ℕ) (conflict : Bool) : Type 0 where
  pub count : length slots ≡ length s.heads
  pub filed : IsFiled slots s pairs
  pub within : (j : ℕ) (c : List LitOf) → slot_at slots j ≡ Some c → ClauseWithin vars c
  pub consistent : IsConsistent s.trail
  pub now : conflict ≡ false → AllKept s.trail s.trail slots s.heads
  pub levels : (n : ℕ) → Contains limits n → (n ≤ length s.trail) × AllKept (take n s.trail) (take n s.trail) slots s.heads
  pub rising : (i j d : ℕ) → i ≤ j → j < length limits → slice_index_or limits i d ≤ slice_index_or limits j d
