use Rattle.sby_terms.proofs.Decimals.{written, reads}
use Rattle.sby_terms.proofs.number.numbers_are_decimal.Goals as goal

pub returns : goal.returns
returns c = λ most n word limit. (written most n word limit, reads most n word limit)
