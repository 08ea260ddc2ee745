use Rattle.sby_bits.proofs.RowLaws.{snum_least, snum_most}
use Rattle.sby_bits.proofs.laws.signed_range.Goals as goal

pub returns-clause-least : goal.returns-clause-least
returns-clause-least c = snum_least

pub returns-clause-most : goal.returns-clause-most
returns-clause-most c = snum_most
