use Rattle.lane_run.specs.Keeping.{IsOfCell}
use Rattle.lane_run.proofs.Keepers.{keeps_then}
use Rattle.lane_run.proofs.waiting.wait_place.Goals as goal

pub returns-in-Some-wait_turn-clause-keeps : goal.returns-in-Some-wait_turn-clause-keeps
returns-in-Some-wait_turn-clause-keeps g c =
    keeps_then (IsOfCell g.T.Settled.problem g.T.Settled.job (g.J.ForJob.problem c.args.watch.now.problem.now) c.args.watch.now.terms.now c.args.watch.now.other) (g.C.Clock.may_read c.args.watch.now.clock.now)
    c.args.notes.now c.loop.notes c.wait_turn.new.notes c.args.events.now.events c.loop.events.events c.wait_turn.new.events.events c.loop.invariant.so_far c.wait_turn.ensures.keeps
