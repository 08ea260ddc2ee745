use Rattle.std.proofs.Common.{◌≡◌, List, ℕ, ◌++◌, subst, arith}
use Rattle.std.proofs.lemmas.Grind.{common_steps}
use Rattle.lane_run.specs.Judging.{Says}
use Rattle.lane_run.proofs.Proving.{says_within}
use Rattle.lane_run.proofs.proof.judge_pieces.Goals as goal

pub returns-in_default : goal.returns-in_default
returns-in_default g c =
    let inv = c.loop-left.invariant in
    let some = c.in_default.not-More in
    let rest = c.split_at.result.1.now in
    let whole : g.S.ChildJudge.proved c.feed_proof.new.self ++ rest ≡ g.S.ChildJudge.proved c.args.judge.now ++ c.args.proof.now =
    grind (arith, common_steps, c.feed_proof.ensures.proved, c.split_at.ensures.front, c.split_at.ensures.back, inv.whole) in (
      some,
      subst (λ (bytes : List ℕ). Says (g.S.ChildJudge.proves c.args.judge.now) bytes c.feed_proof.result) whole
          (says_within (g.S.ChildJudge.proves c.args.judge.now) (g.S.ChildJudge.proves c.loop-left.judge) (g.S.ChildJudge.proved c.feed_proof.new.self ++ rest) c.feed_proof.result inv.same
          (c.feed_proof.ensures.says some rest)),
    )
