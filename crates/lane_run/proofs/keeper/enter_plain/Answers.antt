use Rattle.std.proofs.Common.{inr}
use Rattle.lane_run.specs.Keeping.{IsOfCell}
use Rattle.lane_run.proofs.Keepers.{keeps_plain}
use Rattle.lane_run.proofs.keeper.enter_plain.Goals as goal

pub returns-clause-keeps : goal.returns-clause-keeps
returns-clause-keeps g c = keeps_plain (IsOfCell g.T.Settled.problem g.T.Settled.job (g.J.ForJob.problem c.args.watch.now.problem.now) c.args.watch.now.terms.now c.args.watch.now.other) (g.C.Clock.may_read c.args.watch.now.clock.now) c.args.notes.now c.args.entry c.args.events.now.events c.enter.new.events.events c.requires.plain c.enter.ensures.adds

pub returns-clause-told : goal.returns-clause-told
returns-clause-told g c = λ is. c.enter.ensures.adds.starts (inr is)
