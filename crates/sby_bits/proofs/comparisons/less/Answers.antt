use Rattle.sby_bits.proofs.Orders.{top_decides}
use Rattle.sby_bits.proofs.comparisons.less.Goals as goal

pub returns-then-top_bit : goal.returns-then-top_bit
returns-then-top_bit c =
    rw (c.if-signed.true, c.top_bit-then-top_bit.ensures)
    (top_decides c.args.a.now c.args.b.now c.requires (rw (c.top_bit.ensures, c.top_bit-then-signed.ensures) at c.if-top_bit.true))
