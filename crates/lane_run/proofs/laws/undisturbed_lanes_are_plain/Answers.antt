use Rattle.race_core.specs.Asking.{name_at, terms_of}
use Rattle.std.proofs.Common.{ℕ}
use Rattle.lane_run.specs.Asked.{IsFor, terms_at}
use Rattle.lane_run.proofs.Plains.{ends_plain}
use Rattle.lane_run.proofs.laws.undisturbed_lanes_are_plain.Goals as goal

pub returns : goal.returns
returns g c = λ pool bay told before now faults starts calm j lt.
    let t = c.args.task.now in
    let m = t.factory.now in
    let r = c.args.report.now in
    ends_plain (IsFor g.T.Settled.problem g.T.Settled.job (g.M.ForJob.problem m) t.mode) (λ k. g.M.LaneFactory.is_served m r.lane (name_at t.mode k)) (λ (k : ℕ). terms_of g.T.Settled.job g.T.Settled.answer (terms_at t.mode t.limit k))
    (g.C.Clock.may_read t.clock.now) t.limit t.mode pool (g.M.LaneFactory.words m r.lane) (g.M.LaneFactory.file m) (g.M.LaneFactory.stands m r.lane) (g.M.LaneFactory.ends m r.lane) (g.M.LaneFactory.proves m r.lane) (g.M.LaneFactory.most m) (g.M.LaneFactory.most_output m r.lane)
    (g.met.M.LaneFactory.stays m r.lane) r.jobs c.args.notes.now r c.requires.done c.requires.stopped bay told before now faults starts calm j lt
