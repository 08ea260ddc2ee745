use Rattle.std.proofs.Common.{◌≡◌, ℕ, List, Some, Contains, true, sym, subst, arith}
use Rattle.race_core.specs.Asking.{is_skipped}
use Rattle.race_core.specs.Report.{EventsOf}
use Rattle.race_core.specs.declared.event.LaneEvent.{LaneEvent}
use Rattle.race_core.specs.declared.event.LaneEvent.TheVariants as event
use Rattle.lane_run.proofs.Nones.{none_more, none_within}
use Rattle.lane_run.proofs.known.looked_before.Goals as goal

pub loop-job-preserved : goal.loop-job-preserved
loop-job-preserved g c = none_more (λ (es : EventsOf g.row.T.Denot). (k : ℕ) × (f : g.row.T.Denot) × Contains es.keeper (event.Look k (Some f)) × (is_skipped g.T.Settled.job g.T.Settled.answer c.args.terms.now f ≡ true))
    c.args.events.now c.loop-job.job-index c.job-item.result c.job-item.is c.loop-job.invariant
    (λ x. c.in_default.ensures x.0 x.1 (subst (λ (l : List (LaneEvent g.row.T.Denot)). Contains l (event.Look x.0 (Some x.1))) (sym c.keeper.ensures) x.2) x.3)

pub returns : goal.returns
returns g c = λ es k f contains looked needless. none_within (λ (es : EventsOf g.row.T.Denot). (k : ℕ) × (f : g.row.T.Denot) × Contains es.keeper (event.Look k (Some f)) × (is_skipped g.T.Settled.job g.T.Settled.answer c.args.terms.now f ≡ true))
    c.args.events.now c.loop-job.job-index (omega arith) c.loop-job.invariant es contains (k, f, looked, needless)
