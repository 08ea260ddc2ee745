use Rattle.std.proofs.Common.{◌∙◌}
use Rattle.sby_bits.proofs.Orders.{any-some}
use Rattle.sby_bits.proofs.comparisons.reduce_or.Goals as goal

pub returns : goal.returns
returns c = c.contains.ensures.value ∙ any-some c.args.a.now
