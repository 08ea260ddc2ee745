use Rattle.std.proofs.Common.{◌≡◌, ◌-◌, ◌<◌, ◌≤◌, ℕ, Some, length}
use Rattle.std.specs.Prelude.{slice_get}
use Rattle.btor_emit.specs.Stretching.{IsDigit}
use Rattle.btor_emit.specs.Table.{seat_at}
use Rattle.btor_emit.proofs.table.digits_end.Given as goal

abbrev pub invariant-loop-end : goal.invariant-loop-end
invariant-loop-end l = record {
  some : l.first < l.end;
  most : l.end ≤ length l.places;
  each : (k p : ℕ) → l.first ≤ k → k < l.end → slice_get l.places k ≡ Some p → IsDigit (seat_at l.table p);
}

abbrev pub decreases-loop-end : goal.decreases-loop-end
decreases-loop-end l = length l.places - l.end
