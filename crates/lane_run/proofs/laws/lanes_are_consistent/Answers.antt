use Rattle.std.proofs.Common.{length}
use Rattle.race_core.specs.Asking.{name_at, terms_of}
use Rattle.lane_run.specs.Asked.{IsFor, terms_at}
use Rattle.lane_run.proofs.Races.{lanes_consistent}
use Rattle.lane_run.proofs.laws.lanes_are_consistent.Goals as goal

pub returns : goal.returns
returns g c =
    let t = c.args.task.now in
    lanes_consistent (IsFor g.T.Settled.problem g.T.Settled.job (g.M.ForJob.problem t.factory.now) t.mode) (λ i k. g.M.LaneFactory.is_served t.factory.now i (name_at t.mode k))
    (λ k. terms_of g.T.Settled.job g.T.Settled.answer (terms_at t.mode t.limit k)) (g.C.Clock.may_read t.clock.now) (length t.cells.now) c.args.notes.now c.args.reports.now c.requires
