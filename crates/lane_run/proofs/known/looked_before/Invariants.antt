use Rattle.std.proofs.Common.{◌≡◌, ◌<◌, ℕ, Some, Contains, true}
use Rattle.std.specs.Prelude.{slice_get}
use Rattle.race_core.specs.Asking.{is_skipped}
use Rattle.race_core.specs.Report.{EventsOf}
use Rattle.race_core.specs.declared.event.LaneEvent.TheVariants as event
use Rattle.lane_run.proofs.known.looked_before.Given as goal

abbrev pub invariant-loop-job : goal.invariant-loop-job
invariant-loop-job g l = (j : ℕ) (es : EventsOf g.row.T.Denot) → j < l.job-index → slice_get l.events j ≡ Some es
    → ((k : ℕ) × (f : g.row.T.Denot) × Contains es.keeper (event.Look k (Some f)) × (is_skipped g.T.Settled.job g.T.Settled.answer l.terms f ≡ true)) → ⊥
