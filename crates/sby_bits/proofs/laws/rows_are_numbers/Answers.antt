use Rattle.sby_bits.proofs.Numbers.{length-fit, num-lt}
use Rattle.sby_bits.proofs.Orders.{num-same}
use Rattle.sby_bits.proofs.RowLaws.{num-fit, residue_euclid, row_again, signed_again}
use Rattle.sby_bits.proofs.laws.rows_are_numbers.Goals as goal

pub returns-clause-bound : goal.returns-clause-bound
returns-clause-bound c = num-lt

pub returns-clause-one_row : goal.returns-clause-one_row
returns-clause-one_row c = num-same

pub returns-clause-row_again : goal.returns-clause-row_again
returns-clause-row_again c = row_again

pub returns-clause-signed_again : goal.returns-clause-signed_again
returns-clause-signed_again c = signed_again

pub returns-clause-fit_length : goal.returns-clause-fit_length
returns-clause-fit_length c = length-fit

pub returns-clause-fit_number : goal.returns-clause-fit_number
returns-clause-fit_number c = num-fit

pub returns-clause-modulo : goal.returns-clause-modulo
returns-clause-modulo c = residue_euclid
