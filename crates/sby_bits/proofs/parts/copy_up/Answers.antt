use Rattle.std.proofs.Common.{length, arith}
use Rattle.sby_bits.proofs.Moves.{copied_up}
use Rattle.sby_bits.proofs.parts.copy_up.Goals as goal

pub returns : goal.returns
returns c =
    copied_up c.loop-i.y c.args.a.now (length c.args.y.now) c.args.places (omega arith)
    (λ k h. c.loop-i.invariant.low k (omega arith)) (λ k h. c.loop-i.invariant.high k (omega arith))
