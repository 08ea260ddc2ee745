use Rattle.std.proofs.Common.{◌≡◌, ◌++◌, length}
use Rattle.lane_run.specs.Judging.{Within}
use Rattle.lane_run.proofs.proof.judge_pieces.Given as goal

abbrev pub decreases-loop-left : goal.decreases-loop-left
decreases-loop-left g l = length l.left

abbrev pub invariant-loop-left : goal.invariant-loop-left
invariant-loop-left g l = record {
  proving : g.S.ChildJudge.proving l.judge;
  whole : g.S.ChildJudge.proved l.judge ++ l.left ≡ g.S.ChildJudge.proved l.fn.judge ++ l.fn.proof;
  same : Within (g.S.ChildJudge.proves l.judge) (g.S.ChildJudge.proves l.fn.judge);
}
