use Rattle.sby_bits.proofs.RowLaws.{quotient_whole, remainder_small, remainder_not_negative, remainder_not_positive}
use Rattle.sby_bits.proofs.laws.quotient_and_remainder.Goals as goal

pub returns-clause-whole : goal.returns-clause-whole
returns-clause-whole c = quotient_whole

pub returns-clause-small : goal.returns-clause-small
returns-clause-small c = remainder_small

pub returns-clause-not_negative : goal.returns-clause-not_negative
returns-clause-not_negative c = remainder_not_negative

pub returns-clause-not_positive : goal.returns-clause-not_positive
returns-clause-not_positive c = remainder_not_positive
