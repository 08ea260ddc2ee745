use Rattle.race_core.specs.Told.{told_by}
use Rattle.std.proofs.Common.{◌≡◌, ◌++◌, map, take}
use Rattle.std.specs.Prelude.{vec_capacity}
use Rattle.race_core.specs.Consistent.{end_at}
use Rattle.race_core.proofs.status.add_told.Given as goal

abbrev pub invariant-loop-report : goal.invariant-loop-report
invariant-loop-report g l = record {
  events : l.events.items ≡ l.fn.events.items ++ map (λ r. told_by (end_at r l.place)) (take l.report-index l.reports);
  room : vec_capacity l.events ≡ vec_capacity l.fn.events;
}
