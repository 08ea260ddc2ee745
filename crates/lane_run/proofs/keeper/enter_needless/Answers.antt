use Rattle.std.proofs.Common.{◌≡◌, Some, IfOk, subst}
use Rattle.lane_run.specs.Keeping.{IsOfCell}
use Rattle.race_cells.specs.Notes.{known_at}
use Rattle.race_core.specs.declared.event.LaneEvent.TheVariants as event
use Rattle.lane_run.proofs.Keepers.{keeps_look, keeps_plain}
use Rattle.lane_run.proofs.keeper.enter_needless.Goals as goal

pub returns-in-Ok-clause-keeps : goal.returns-in-Ok-clause-keeps
returns-in-Ok-clause-keeps g c =
    let f = subst (λ r. IfOk r (λ k. (known_at c.args.notes.now c.args.place ≡ Some k.0) × IsOfCell g.T.Settled.problem g.T.Settled.job (g.J.ForJob.problem c.args.watch.now.problem.now) c.args.watch.now.terms.now c.args.watch.now.other c.args.place k.0)) c.in-Ok.is c.requires.found in
    keeps_look (IsOfCell g.T.Settled.problem g.T.Settled.job (g.J.ForJob.problem c.args.watch.now.problem.now) c.args.watch.now.terms.now c.args.watch.now.other) (g.C.Clock.may_read c.args.watch.now.clock.now) c.args.notes.now c.args.place c.in-Ok.known c.args.events.now.events c.enter.new.events.events f.1 f.0 c.enter.ensures.adds

pub returns-in-Err-clause-keeps : goal.returns-in-Err-clause-keeps
returns-in-Err-clause-keeps g c = keeps_plain (IsOfCell g.T.Settled.problem g.T.Settled.job (g.J.ForJob.problem c.args.watch.now.problem.now) c.args.watch.now.terms.now c.args.watch.now.other) (g.C.Clock.may_read c.args.watch.now.clock.now) c.args.notes.now event.KeeperMemory c.args.events.now.events c.enter-in-Err.new.events.events tt c.enter-in-Err.ensures.adds
