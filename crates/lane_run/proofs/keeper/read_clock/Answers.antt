use Rattle.lane_run.specs.Keeping.{IsOfCell}
use Rattle.lane_run.proofs.Keepers.{keeps_reading}
use Rattle.lane_run.proofs.keeper.read_clock.Goals as goal

pub returns-clause-keeps : goal.returns-clause-keeps
returns-clause-keeps g c = keeps_reading (IsOfCell g.T.Settled.problem g.T.Settled.job (g.J.ForJob.problem c.args.watch.now.problem.now) c.args.watch.now.terms.now c.args.watch.now.other) (g.C.Clock.may_read c.args.watch.now.clock.now) c.args.notes.now c.now-reading.result c.args.events.now.events c.enter.new.events.events c.now-reading.ensures c.enter.ensures.adds
