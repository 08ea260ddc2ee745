use Rattle.std.proofs.Common.{◌∙◌, ap, Bool, not}
use Rattle.sby_bits.proofs.Orders.{all-every}
use Rattle.sby_bits.proofs.comparisons.reduce_and.Goals as goal

pub returns : goal.returns
returns c = ap (λ (b : Bool). not b) c.contains.ensures.value ∙ all-every c.args.a.now
