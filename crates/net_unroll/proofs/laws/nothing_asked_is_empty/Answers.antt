use Rattle.std.proofs.Common.{ap}
use Rattle.net_unroll.specs.Encoding.{encoding_for, formula_of}
use Rattle.net_unroll.proofs.laws.nothing_asked_is_empty.Goals as goal

pub returns : goal.returns
returns x n a c e = ap (λ o. formula_of (encoding_for n c o)) e
