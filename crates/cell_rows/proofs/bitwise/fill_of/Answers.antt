use Rattle.std.proofs.Common.{sym}
use Rattle.sby_bits.proofs.Numbers.{top_bit-at}
use Rattle.cell_rows.proofs.bitwise.fill_of.Goals as goal

pub returns-then-signed : goal.returns-then-signed
returns-then-signed c = rw (c.if-signed.true) (sym (top_bit-at c.args.a.now))
