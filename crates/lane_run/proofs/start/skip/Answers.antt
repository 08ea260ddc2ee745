use Rattle.std.proofs.Common.{◌≡◌, Some, IfOk, subst}
use Rattle.lane_run.specs.Keeping.{IsOfCell}
use Rattle.race_cells.specs.Notes.{known_at}
use Rattle.lane_run.proofs.Keepers.{keeps_look}
use Rattle.lane_run.proofs.start.skip.Goals as goal

pub returns-in-Ok-clause-keeps : goal.returns-in-Ok-clause-keeps
returns-in-Ok-clause-keeps g c =
    let of_cell = (IsOfCell g.T.Settled.problem g.T.Settled.job (g.J.ForJob.problem c.args.watch.now.problem.now) c.args.watch.now.terms.now c.args.watch.now.other) in
    let f = subst (λ r. IfOk r (λ k. (known_at c.args.notes.now c.args.place ≡ Some k.0) × of_cell c.args.place k.0)) c.in-Ok.is c.requires.found in
    keeps_look of_cell (g.C.Clock.may_read c.args.watch.now.clock.now) c.args.notes.now c.args.place c.in-Ok.known c.args.events.now.events c.enter.new.events.events f.1 f.0 c.enter.ensures.adds
