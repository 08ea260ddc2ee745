use Rattle.std.proofs.Common.{arith, ◌+◌}
use Rattle.cert_judge.proofs.OutputFeeding.{goes_rest, goes_next}
use Rattle.cert_judge.proofs.output.OutputJudge.take_piece.Goals as goal

pub loop-i-preserved-then-i-piece : goal.loop-i-preserved-then-i-piece
loop-i-preserved-then-i-piece g c = record {
  within = omega (arith, c.if-i-piece.true);
  goes =
      goes_next c.args.self.now c.pass.new.self c.take.new.self c.args.piece.now (c.loop-i.i + c.in_ok-i.field-0)
      (goes_rest c.args.self.now c.loop-i.self c.pass.new.self c.args.piece.now c.loop-i.i c.loop-i.invariant.goes c.in_ok-i.field-0 c.in_ok-i.ensures.goes)
      (omega (arith, c.if-i-piece.true)) c.in_ok-take.ensures.goes;
}

pub loop-i-preserved : goal.loop-i-preserved
loop-i-preserved g c = record {
  within = omega (arith, c.if-i-piece.false, c.in_ok-i.ensures.within, c.loop-i.invariant.within);
  goes = goes_rest c.args.self.now c.loop-i.self c.pass.new.self c.args.piece.now c.loop-i.i c.loop-i.invariant.goes c.in_ok-i.field-0 c.in_ok-i.ensures.goes;
}
