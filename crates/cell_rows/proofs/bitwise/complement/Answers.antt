use Rattle.std.proofs.Common.{length, arith}
use Rattle.cell_rows.proofs.Bits.{complement_is}
use Rattle.cell_rows.proofs.bitwise.complement.Goals as goal

pub returns : goal.returns
returns c =
    complement_is (length c.args.y.now) c.args.a.now c.args.signed c.fill_of-fill.result c.loop-i.y (let n = c.loop-i.auto in omega arith) c.fill_of-fill.ensures
    (λ k h. c.loop-i.invariant k (let n = c.loop-i.auto in let t = c.loop-i-test.false in omega arith))
