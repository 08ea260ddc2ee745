use Rattle.std.proofs.Common.{◌≡◌, true, refl, arith}
use Rattle.race_core.specs.Asking.{is_skipped}
use Rattle.race_core.specs.declared.end.JobEnd.{JobEnd}
use Rattle.race_core.specs.declared.end.JobEnd.TheVariants as end
use Rattle.lane_run.proofs.Nones.{none_more, none_within}
use Rattle.lane_run.proofs.known.found_skipping.Goals as goal

pub loop-end-preserved : goal.loop-end-preserved
loop-end-preserved g c = none_more (λ (e : JobEnd g.row.T.Denot). (f : g.row.T.Denot) × (e ≡ end.Found f) × (is_skipped g.T.Settled.job g.T.Settled.answer c.args.terms.now f ≡ true))
    c.args.ends.now c.loop-end.end-index c.end-item.result c.end-item.is c.loop-end.invariant (λ x. c.in_default.ensures x.0 x.1 x.2)

pub returns : goal.returns
returns g c = λ f contains needless. none_within (λ (e : JobEnd g.row.T.Denot). (f : g.row.T.Denot) × (e ≡ end.Found f) × (is_skipped g.T.Settled.job g.T.Settled.answer c.args.terms.now f ≡ true))
    c.args.ends.now c.loop-end.end-index (omega arith) c.loop-end.invariant (end.Found f) contains (f, refl, needless)
