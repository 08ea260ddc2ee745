use Rattle.std.proofs.Common.{◌≡◌, ℕ, ◌<◌, subst, ◌∙◌}
use Rattle.race_core.specs.Asking.{terms_of}
use Rattle.race_core.specs.Parts.{reader_from}
use Rattle.race_core.specs.declared.part.Reader.TheVariants as reader
use Rattle.lane_run.specs.Keeping.{IsOfCell}
use Rattle.lane_run.specs.Reading.{NoneLeft, Proves, TookProof}
use Rattle.lane_run.specs.Sides.{kept_by}
use Rattle.race_core.specs.Ends.{IsKilled}
use Rattle.lane_run.proofs.Endings.{comes_finished, proof_finished}
use Rattle.lane_run.proofs.Keepers.{keeps_then}
use Rattle.lane_run.proofs.Kills.{killed_then}
use Rattle.lane_run.proofs.job.run_started.Goals as goal

pub returns-clause-keeps : goal.returns-clause-keeps
returns-clause-keeps g c =
    keeps_then (IsOfCell g.T.Settled.problem g.T.Settled.job (g.J.ForJob.problem c.args.watch.now.problem.now) c.args.watch.now.terms.now c.args.watch.now.other) (g.C.Clock.may_read c.args.watch.now.clock.now) c.args.notes.now c.live-lived.new.notes c.conclude.new.notes
    c.args.keeper_events.now.events c.live-lived.new.keeper_events.events c.conclude.new.keeper_events.events c.live-lived.ensures.keeps c.conclude.ensures.keeps

pub returns-clause-ran : goal.returns-clause-ran
returns-clause-ran g c =
    let r = c.live-lived.ensures.reader in
    let f = c.conclude.ensures.finishes.1 in
    let asks = f.1 in (
      r.0,
      g.S.ChildJudge.taken c.live-lived.result.judge,
      asks.0,
      r.1,
      c.conclude.ensures.told ∙ r.2,
      killed_then (terms_of g.T.Settled.job g.T.Settled.answer c.args.watch.now.terms.now) c.live-lived.result.why c.live-lived.new.keeper_events.events c.conclude.new.keeper_events.events r.0 r.1 c.live-lived.ensures.kept r.3 c.conclude.ensures.still,
      r.4.took,
      c.conclude.ensures.read ∙ r.4.counted,
      asks.1,
      proof_finished (g.L.Launch.told c.live-lived.new.berth.bay) (g.L.Launch.told c.conclude.new.berth.bay) c.args.asked.now.job c.args.asked.now.most asks.0
          c.live-lived.result.part f.0 (reader_from reader.Fresh c.conclude.result.events.events)
          (c.live-lived.result.part ≡ reader.Asking → IsKilled (kept_by c.conclude.ensures.finishes.0))
          (c.live-lived.result.part ≡ reader.Asking) (Proves (g.S.ChildJudge.proves c.live-lived.result.judge) asks.0 f.0) c.conclude.ensures.told c.live-lived.ensures.has_read asks.2 f.2,
      comes_finished (g.S.ChildJudge.stands c.args.judge) (g.S.ChildJudge.ends c.args.judge) (g.S.ChildJudge.proves c.args.judge) (g.S.ChildJudge.proves c.live-lived.result.judge)
          (NoneLeft r.0) (g.S.ChildJudge.taken c.live-lived.result.judge) asks.0 c.live-lived.result.part f.0 (reader_from reader.Fresh c.conclude.result.events.events)
          (c.live-lived.result.part ≡ reader.Asking → IsKilled (kept_by c.conclude.ensures.finishes.0))
          (TookProof (g.L.Launch.told c.live-lived.new.berth.bay) c.args.asked.now.job c.args.asked.now.most asks.0 f.0)
          r.5 c.live-lived.ensures.proves asks.2 f.2,
      (λ some. r.4.closed (subst (λ (n : ℕ). 0 < n) c.conclude.ensures.empty some)),
      c.live-lived.ensures.most,
    )
