use Rattle.std.proofs.Common.{sym}
use Rattle.sby_bits.proofs.Numbers.{top_bit-at}
use Rattle.sby_bits.proofs.parts.top_bit.Goals as goal

pub returns-in-len1-up : goal.returns-in-len1-up
returns-in-len1-up c = sym (top_bit-at c.args.a.now)
