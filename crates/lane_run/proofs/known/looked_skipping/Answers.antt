use Rattle.std.proofs.Common.{◌≡◌, ℕ, Some, true, refl, arith}
use Rattle.race_core.specs.Asking.{is_skipped}
use Rattle.race_core.specs.declared.event.LaneEvent.{LaneEvent}
use Rattle.race_core.specs.declared.event.LaneEvent.TheVariants as event
use Rattle.lane_run.proofs.Nones.{none_more, none_within}
use Rattle.lane_run.proofs.known.looked_skipping.Goals as goal

pub loop-event-preserved : goal.loop-event-preserved
loop-event-preserved g c = none_more (λ (e : LaneEvent g.row.T.Denot). (k : ℕ) × (f : g.row.T.Denot) × (e ≡ event.Look k (Some f)) × (is_skipped g.T.Settled.job g.T.Settled.answer c.args.terms.now f ≡ true))
    c.args.events.now c.loop-event.event-index c.event-item.result c.event-item.is c.loop-event.invariant (λ x. c.in_default.ensures x.0 x.1 x.2 x.3)

pub returns : goal.returns
returns g c = λ k f contains needless. none_within (λ (e : LaneEvent g.row.T.Denot). (k : ℕ) × (f : g.row.T.Denot) × (e ≡ event.Look k (Some f)) × (is_skipped g.T.Settled.job g.T.Settled.answer c.args.terms.now f ≡ true))
    c.args.events.now c.loop-event.event-index (omega arith) c.loop-event.invariant (event.Look k (Some f)) contains (k, f, refl, needless)
