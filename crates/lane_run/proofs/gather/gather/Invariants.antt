use Rattle.std.proofs.Common.{◌≡◌, ◌≤◌, ◌++◌, All, List, length, map}
use Rattle.std.specs.Prelude.{vec_capacity}
use Rattle.std.specs.Vec.Iter.{into_iter_items, into_iter_len}
use Rattle.lane_run.specs.Keeping.{Remember}
use Rattle.lane_run.specs.declared.racing.Lane.{Lane}
use Rattle.lane_run.proofs.gather.gather.Given as goal

abbrev pub invariant-loop-lane : goal.invariant-loop-lane
invariant-loop-lane g l = record {
  taken : List (Lane g.row.L.Denot g.row.T.Denot);
  order : taken ++ into_iter_items l.left ≡ l.fn.lanes.items;
  left : into_iter_len l.left ≡ length (into_iter_items l.left);
  bays : l.raced.bays.items ≡ map (λ x. x.bay.bay) taken;
  reports : l.raced.reports.items ≡ map (λ x. x.report) taken;
  notes : All (λ x. Remember x.notes l.raced.notes) taken;
  cells : map (λ n. n.cell) l.raced.notes ≡ map (λ n. n.cell) l.fn.raced.notes;
  room : (vec_capacity l.fn.raced.bays ≤ vec_capacity l.raced.bays) × (vec_capacity l.fn.raced.reports ≤ vec_capacity l.raced.reports);
}

abbrev pub decreases-loop-lane : goal.decreases-loop-lane
decreases-loop-lane g l = into_iter_len l.left
