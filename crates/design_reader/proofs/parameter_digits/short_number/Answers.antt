use Rattle.std.proofs.Common.{◌∙◌, ap, List, ℕ, length, refl}
use Rattle.rtlil_constant.specs.Constants.{open_digits}
use Rattle.rtlil_constant.proofs.DigitLemmas.{open_past}
use Rattle.design_reader.proofs.DigitLemmas.{pow_more, short_is}
use Rattle.design_reader.proofs.parameter_digits.short_number.Goals as goal

pub returns-clause-fits : goal.returns-clause-fits
returns-clause-fits c = pow_more c.in_ok-value.value (length c.in_ok-zeros.written.now) c.in_ok-zeros.zeros c.in_ok-value.ensures.fits

pub returns-clause-digits : goal.returns-clause-digits
returns-clause-digits c =
    short_is c.in_ok-zeros.zeros c.in_ok-value.value c.args.digits.now c.in_ok-zeros.written.now c.in_ok-value.ensures.fits c.in_ok-zeros.ensures c.in_ok-value.ensures.digits

pub returns-clause-closed : goal.returns-clause-closed
returns-clause-closed c =
    ap (λ (l : List ℕ). open_digits l) c.in_ok-zeros.ensures ∙ open_past c.in_ok-zeros.zeros 48 c.in_ok-zeros.written.now refl ∙ c.in_ok-value.ensures.closed
