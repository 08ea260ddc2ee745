use Rattle.std.proofs.Common.{◌≡◌, false, sym, ◌∙◌}
use Rattle.std.specs.Option.{is_some}
use Rattle.lane_run.specs.Keeping.{IsOfCell}
use Rattle.lane_run.proofs.Keepers.{keeps_then}
use Rattle.lane_run.proofs.Proving.{if_none, where_none}
use Rattle.lane_run.proofs.proof.judge_beside.Goals as goal

pub returns-then-is_some-clause-keeps : goal.returns-then-is_some-clause-keeps
returns-then-is_some-clause-keeps g c =
    keeps_then (IsOfCell g.T.Settled.problem g.T.Settled.job (g.J.ForJob.problem c.args.watch.now.problem.now) c.args.watch.now.terms.now c.args.watch.now.other) (g.C.Clock.may_read c.args.watch.now.clock.now)
    c.args.notes.now c.loop.notes c.judge_stint-judge.new.notes c.args.keeper_events.now.events c.loop.keeper_events.events c.judge_stint-judge.new.keeper_events.events c.loop.invariant.so_far c.judge_stint-judge.ensures.keeps

pub loop-preserved : goal.loop-preserved
loop-preserved g c =
    let inv = c.loop.invariant in
    let stint = c.judge_stint-judge.ensures in
    let unsaid : is_some c.judge_stint-judge.result.said ≡ false = sym c.is_some.ensures ∙ c.if-is_some.false in
    let no_reason : is_some c.judge_stint-judge.result.why ≡ false = sym c.is_some-else-is_some.ensures ∙ c.if-is_some-2.false in
    let on = where_none c.judge_stint-judge.result.said _ _ unsaid stint.judged in
    record {
      proving = on.0;
      whole = on.1 ∙ inv.whole;
      same = λ bytes p h. inv.same bytes p (on.2 bytes p h);
      so_far = keeps_then (IsOfCell g.T.Settled.problem g.T.Settled.job (g.J.ForJob.problem c.args.watch.now.problem.now) c.args.watch.now.terms.now c.args.watch.now.other) (g.C.Clock.may_read c.args.watch.now.clock.now)
          c.args.notes.now c.loop.notes c.judge_stint-judge.new.notes c.args.keeper_events.now.events c.loop.keeper_events.events c.judge_stint-judge.new.keeper_events.events inv.so_far stint.keeps;
      of = stint.keeps.remember.cells ∙ inv.of;
      part = where_none c.judge_stint-judge.result.why _ _ no_reason stint.kept;
      same_place = stint.place ∙ inv.same_place;
      some = if_none c.judge_stint-judge.result.why _ no_reason stint.keeper_room;
    }
