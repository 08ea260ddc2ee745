use Rattle.std.proofs.Common.{length, arith}
use Rattle.sby_bits.proofs.Numbers.{copied_down}
use Rattle.sby_bits.proofs.parts.copy_down.Goals as goal

pub returns : goal.returns
returns c =
    copied_down c.loop-i.y c.args.a.now (length c.args.y.now) c.args.places c.args.fill (omega arith)
    (λ k h. c.loop-i.invariant k (omega arith))
