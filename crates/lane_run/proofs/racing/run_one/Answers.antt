use Rattle.std.proofs.Common.{ℕ, length, sym, subst, ◌∙◌}
use Rattle.race_core.specs.Asking.{name_at, terms_of}
use Rattle.lane_run.specs.Asked.{IsFor, terms_at}
use Rattle.lane_run.specs.Done.{LaneSoFar}
use Rattle.lane_run.proofs.racing.run_one.Goals as goal

pub returns-clause-done : goal.returns-clause-done
returns-clause-done g c =
    let t = c.args.task.now in
    let for = IsFor g.T.Settled.problem g.T.Settled.job (g.M.ForJob.problem t.factory.now) t.mode in
    let terms = λ (k : ℕ). terms_of g.T.Settled.job g.T.Settled.answer (terms_at t.mode t.limit k) in
    let may = g.C.Clock.may_read t.clock.now in
    let e = c.run_lane.ensures in
    let jobs = c.requires.ready.0 in (
      subst (λ (lane : ℕ). LaneSoFar for (λ k. g.M.LaneFactory.is_served t.factory.now lane (name_at t.mode k)) terms may (length t.cells.now) c.run_lane.new.notes c.run_lane.new.report) (sym e.same.0)
          (subst (λ (n : ℕ). LaneSoFar for (λ k. g.M.LaneFactory.is_served t.factory.now c.args.lane.now.report.lane (name_at t.mode k)) terms may n c.run_lane.new.notes c.run_lane.new.report) jobs e.done),
      e.same.1 ∙ jobs,
      e.remember.cells ∙ c.requires.ready.3,
    )
