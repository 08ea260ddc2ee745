use Rattle.std.proofs.Common.{None}
use Rattle.lane_run.specs.Keeping.{IsOfCell}
use Rattle.race_core.specs.declared.event.LaneEvent.TheVariants as event
use Rattle.lane_run.proofs.Keepers.{keeps_plain, keeps_remember, keeps_then}
use Rattle.lane_run.proofs.keeper.look.Goals as goal

pub returns-clause-keeps : goal.returns-clause-keeps
returns-clause-keeps g c =
    let of_cell = (IsOfCell g.T.Settled.problem g.T.Settled.job (g.J.ForJob.problem c.args.watch.now.problem.now) c.args.watch.now.terms.now c.args.watch.now.other) in
    let may = (g.C.Clock.may_read c.args.watch.now.clock.now) in
    let one = keeps_remember of_cell may c.args.notes.now c.needless_at.new.notes c.args.events.now.events c.needless_at.ensures.notes in
    let two = keeps_remember of_cell may c.needless_at.new.notes c.needless_at-2.new.notes c.args.events.now.events c.needless_at-2.ensures.notes in
    let own = keeps_plain of_cell may c.needless_at-2.new.notes (event.Look c.args.watch.now.terms.now.cell None) c.args.events.now.events c.enter.new.events.events tt c.enter.ensures.adds in
    keeps_then of_cell may c.args.notes.now c.needless_at.new.notes c.needless_at-2.new.notes c.args.events.now.events c.args.events.now.events c.enter_needless-2.new.events.events one
    (keeps_then of_cell may c.needless_at.new.notes c.needless_at-2.new.notes c.needless_at-2.new.notes c.args.events.now.events c.args.events.now.events c.enter_needless-2.new.events.events two
    (keeps_then of_cell may c.needless_at-2.new.notes c.needless_at-2.new.notes c.needless_at-2.new.notes c.args.events.now.events c.enter.new.events.events c.enter_needless-2.new.events.events own c.enter_needless-2.ensures.keeps))
