use Rattle.lane_run.specs.Keeping.{IsOfCell}
use Rattle.lane_run.proofs.Keepers.{keeps_then}
use Rattle.lane_run.proofs.life.live.Goals as goal

pub returns-clause-keeps : goal.returns-clause-keeps
returns-clause-keeps g c =
    keeps_then (IsOfCell g.T.Settled.problem g.T.Settled.job (g.J.ForJob.problem c.args.watch.now.problem.now) c.args.watch.now.terms.now c.args.watch.now.other) (g.C.Clock.may_read c.args.watch.now.clock.now)
    c.args.notes.now c.run_beside-part.new.notes c.run_beside-part.new.notes c.args.keeper_events.now.events c.run_beside-part.new.events.events c.finish_child.new.events.events c.run_beside-part.ensures.kept.keeps c.finish_child.ensures.keeps
