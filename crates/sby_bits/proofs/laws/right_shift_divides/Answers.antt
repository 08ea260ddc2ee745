use Rattle.std.proofs.Common.{refl}
use Rattle.sby_bits.proofs.laws.right_shift_divides.Goals as goal

pub returns-clause-zeros : goal.returns-clause-zeros
returns-clause-zeros c = λ a by y. refl

pub returns-clause-sign : goal.returns-clause-sign
returns-clause-sign c = λ a by y. refl
