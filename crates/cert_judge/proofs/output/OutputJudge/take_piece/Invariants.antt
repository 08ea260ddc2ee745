use Rattle.std.proofs.Common.{◌≤◌, length, take, ◌-◌}
use Rattle.cert_judge.specs.OutputJudging.{Goes}
use Rattle.cert_judge.proofs.output.OutputJudge.take_piece.Given as goal

abbrev pub invariant-loop-i : goal.invariant-loop-i
invariant-loop-i g l = record {
  within : l.i ≤ length l.piece;
  goes : Goes l.initial.self (take l.i l.piece) l.self;
}

abbrev pub decreases-loop-i : goal.decreases-loop-i
decreases-loop-i g l = length l.piece - l.i
