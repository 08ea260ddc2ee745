use Rattle.std.proofs.Common.{◌≡◌, ◌<◌, ◌≤◌, ℕ, All, length}
use Rattle.std.specs.Prelude.{slice_index_or, vec_capacity}
use Rattle.lane_run.specs.Raced.{IsReady}
use Rattle.lane_run.specs.declared.prepare.PreparedLane.{PreparedLane}
use Rattle.lane_run.proofs.prepare.prepare_lanes.Given as goal

abbrev pub invariant-loop-place : goal.invariant-loop-place
invariant-loop-place g l = record {
  count : length l.prepared.items ≡ l.place;
  room : l.count ≤ vec_capacity l.prepared;
  ready : All (λ x. IsReady l.cells x.report x.notes) l.prepared.items;
  places : (i : ℕ) (d : PreparedLane g.row.T.Denot) → i < length l.prepared.items → (slice_index_or l.prepared.items i d).report.lane ≡ i;
}
