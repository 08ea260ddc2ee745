use Rattle.std.proofs.Common.{◌≡◌, ◌<◌, ℕ, Some, true}
use Rattle.std.specs.Prelude.{slice_get}
use Rattle.race_core.specs.Asking.{is_skipped}
use Rattle.race_core.specs.declared.event.LaneEvent.{LaneEvent}
use Rattle.race_core.specs.declared.event.LaneEvent.TheVariants as event
use Rattle.lane_run.proofs.known.looked_skipping.Given as goal

abbrev pub invariant-loop-event : goal.invariant-loop-event
invariant-loop-event g l = (j : ℕ) (e : LaneEvent g.row.T.Denot) → j < l.event-index → slice_get l.events j ≡ Some e
    → ((k : ℕ) × (f : g.row.T.Denot) × (e ≡ event.Look k (Some f)) × (is_skipped g.T.Settled.job g.T.Settled.answer l.terms f ≡ true)) → ⊥
