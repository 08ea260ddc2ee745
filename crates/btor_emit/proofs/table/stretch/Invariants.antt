use Rattle.std.proofs.Common.{length, ◌-◌, ◌<◌, ◌≤◌}
use Rattle.btor_emit.specs.Stretching.{IsStretch}
use Rattle.btor_emit.proofs.table.stretch.Given as goal

abbrev pub invariant-loop-end : goal.invariant-loop-end
invariant-loop-end l = record {
  some : l.first < l.end;
  most : l.end ≤ length l.places;
  each : IsStretch l.table l.places l.first l.end l.seat;
}

abbrev pub decreases-loop-end : goal.decreases-loop-end
decreases-loop-end l = length l.places - l.end
