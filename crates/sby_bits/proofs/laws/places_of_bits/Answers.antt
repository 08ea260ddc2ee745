use Rattle.sby_bits.proofs.RowLaws.{any_bits, concat_high_bits, concat_low_bits, extended_bits, left_bits, right_bits, slice_bits}
use Rattle.sby_bits.proofs.laws.places_of_bits.Goals as goal

pub returns-clause-extended : goal.returns-clause-extended
returns-clause-extended c = extended_bits

pub returns-clause-left : goal.returns-clause-left
returns-clause-left c = left_bits

pub returns-clause-right : goal.returns-clause-right
returns-clause-right c = right_bits

pub returns-clause-any : goal.returns-clause-any
returns-clause-any c = any_bits

pub returns-clause-slice : goal.returns-clause-slice
returns-clause-slice c = slice_bits

pub returns-clause-concat_low : goal.returns-clause-concat_low
returns-clause-concat_low c = concat_low_bits

pub returns-clause-concat_high : goal.returns-clause-concat_high
returns-clause-concat_high c = concat_high_bits
