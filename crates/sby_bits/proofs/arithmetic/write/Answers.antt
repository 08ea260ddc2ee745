use Rattle.std.proofs.Common.{length, arith}
use Rattle.std.specs.Prelude.{pos}
use Rattle.sby_bits.proofs.Numbers.{row_is}
use Rattle.sby_bits.proofs.arithmetic.write.Goals as goal

pub returns : goal.returns
returns c = row_is c.loop-i.y (length c.args.y.now) (pos c.args.n) (omega arith) (λ k h. c.loop-i.invariant k (omega arith))
