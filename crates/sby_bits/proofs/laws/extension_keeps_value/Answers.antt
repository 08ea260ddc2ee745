use Rattle.sby_bits.proofs.RowLaws.{extended_longer, num-fit_small, snum-fit}
use Rattle.sby_bits.specs.Rows.{num, snum}
use Rattle.sby_bits.proofs.laws.extension_keeps_value.Goals as goal

pub returns-clause-unsigned : goal.returns-clause-unsigned
returns-clause-unsigned c = λ r y h. num-fit_small y (num r) h

pub returns-clause-signed : goal.returns-clause-signed
returns-clause-signed c = λ r y least most. snum-fit y (snum r) least most

pub returns-clause-longer : goal.returns-clause-longer
returns-clause-longer c = extended_longer
