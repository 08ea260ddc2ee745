-- What holds of a checker's fields.
use Rattle.std.specs.Prelude.{◌≡◌, ℕ, ◌≤◌, Bool, true, List, [], length, Contains, Option, Some}
use Rattle.cnf_form.specs.Cnf.{LitOf}
use Rattle.unit_propagation.specs.Marks.{Shows}
use Rattle.unit_propagation.specs.Propagation.{HasFalsified, IsDerived}
use Rattle.unit_propagation.specs.Propagator.{PropagatorOf, clauses_of, slot_at}
use Rattle.drup_check.specs.Marks.{HasPlaces, Weighs}
use Rattle.drup_check.specs.Copies.{CopiesOf, Holds}

-- no level is open, what is true is in the closure, and a conflict is one of the clauses
pub record IsRoot (p : PropagatorOf) : Type 0 where
  pub level : p.limits ≡ []
  pub derived : IsDerived (clauses_of p.slots) p.trail
  pub falsified : p.conflict ≡ true → HasFalsified p.trail (clauses_of p.slots)

-- nothing is marked, and there are places for the literals of the clauses
pub record IsFree (F : List (List LitOf)) (marks : List Bool) : Type 0 where
  pub places : (c : List LitOf) → Contains F c → HasPlaces marks c
  pub clear : Shows marks []

-- the chains have each clause that is present, by the weights of this salt, and there is a place for each number
pub record IsFiled (p : PropagatorOf) (salt : ℕ) (t : CopiesOf) : Type 0 where
  pub each : (k : ℕ) (c : List LitOf) → slot_at p.slots k ≡ Some c → (h : ℕ) × Weighs salt c h × Holds t h k
  pub counted : t.count ≤ length p.slots
  pub placed : length p.slots ≤ length t.nexts

-- what is present and on a chain stays there, and there are no more entries nor fewer places
pub record Keeps (slots : List (Option (List LitOf))) (t t' : CopiesOf) : Type 0 where
  pub each : (h k : ℕ) (c : List LitOf) → slot_at slots k ≡ Some c → Holds t h k → Holds t' h k
  pub count : t'.count ≡ t.count
  pub places : length t'.nexts ≡ length t.nexts
