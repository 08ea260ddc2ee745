use Rattle.std.proofs.Common.{length, arith}
use Rattle.cell_rows.specs.Bits.{bit_fn}
use Rattle.cell_rows.proofs.Bits.{bits_are}
use Rattle.cell_rows.proofs.bitwise.bits.Goals as goal

pub returns : goal.returns
returns c =
    bits_are (length c.args.y.now) c.args.a.now c.args.b.now c.args.signed c.fill_of-fill_a.result c.fill_of-fill_b.result c.fill_of-fill_a.ensures c.fill_of-fill_b.ensures
    (bit_fn c.args.kind) c.loop-i.y (let n = c.loop-i.auto in omega arith)
    (λ k h. c.loop-i.invariant k (let n = c.loop-i.auto in let t = c.loop-i-test.false in omega arith))
