use Rattle.std.proofs.Common.{◌≡◌, ◌≤◌, ◌<◌, ℕ, List, length}
use Rattle.std.specs.Prelude.{Some}
use Rattle.cnf_form.specs.Cnf.{LitOf}
use Rattle.unit_propagation.specs.Propagator.{slot_at, clauses_of}
use Rattle.drup_check.specs.Copies.{Holds}
use Rattle.drup_check.specs.Marks.{Weighs}
use Rattle.drup_check.specs.Inside.{IsFree}
use Rattle.drup_check.proofs.lookup.file_present.Given as goal

abbrev pub invariant-loop-k : goal.invariant-loop-k
invariant-loop-k l = record {
  free : IsFree (clauses_of l.core.slots) l.marks;
  counted : l.copies.count ≤ l.k;
  placed : length l.copies.nexts ≡ length l.core.slots;
  filed : (j : ℕ) (d : List LitOf) → j < l.k → slot_at l.core.slots j ≡ Some d → (h : ℕ) × Weighs l.salt d h × Holds l.copies h j;
}
