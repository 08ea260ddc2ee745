use Rattle.std.proofs.Common.{length, arith, max}
use Rattle.cell_rows.proofs.Choosing.{same_rows, unequal}
use Rattle.cell_rows.proofs.flags.is_same.Goals as goal

pub returns-then-bit_at : goal.returns-then-bit_at
returns-then-bit_at c =
    let m = c.max-i-end.ensures in
    let t = c.loop-i-test.true in
    unequal (max (length c.args.a.now) (length c.args.b.now)) c.args.a.now c.args.b.now c.args.signed c.fill_of-fill_a.result c.fill_of-fill_b.result c.fill_of-fill_a.ensures c.fill_of-fill_b.ensures
    c.loop-i.i c.bit_at.result c.bit_at-in-loop-i.result (omega arith) c.bit_at.ensures c.bit_at-in-loop-i.ensures c.if-bit_at.true

pub returns : goal.returns
returns c =
    let m = c.max-i-end.ensures in
    let t = c.loop-i-test.false in
    same_rows (max (length c.args.a.now) (length c.args.b.now)) c.args.a.now c.args.b.now c.args.signed c.fill_of-fill_a.result c.fill_of-fill_b.result c.fill_of-fill_a.ensures c.fill_of-fill_b.ensures
    (λ k l. c.loop-i.invariant k (omega arith))
