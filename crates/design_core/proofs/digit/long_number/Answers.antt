use Rattle.design_core.proofs.Numbers.{binary-above, zeros-above}
use Rattle.design_core.proofs.digit.long_number.Goals as goal

pub returns-in-Zeros-clause-some : goal.returns-in-Zeros-clause-some
returns-in-Zeros-clause-some c =
    rw (c.in-Zeros.is, binary-above c.args.digits.now c.in-Zeros.field-0, zeros-above c.args.digits.now c.in-Zeros.field-0) c.number_in.ensures.some

pub returns-in-Zeros-clause-none : goal.returns-in-Zeros-clause-none
returns-in-Zeros-clause-none c =
    rw (c.in-Zeros.is, binary-above c.args.digits.now c.in-Zeros.field-0, zeros-above c.args.digits.now c.in-Zeros.field-0) c.number_in.ensures.none
