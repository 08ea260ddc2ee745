use Rattle.std.proofs.Common.{◌∙◌, ap, sym}
use Rattle.std.specs.List.{list_all}
use Rattle.design_core.specs.Digits.{above_digits, is_number, is_value}
use Rattle.design_core.specs.declared.digit.Extension.{Extension}
use Rattle.design_core.proofs.Numbers.{zeros-binary, zeros-values}
use Rattle.design_core.proofs.digit.has_values.Goals as goal

pub returns-in-Zeros-clause-binary : goal.returns-in-Zeros-clause-binary
returns-in-Zeros-clause-binary c = sym (ap (λ (above : Extension). is_number (above_digits above)) c.in-Zeros.is ∙ zeros-binary c.in-Zeros.field-0)

pub returns-in-Zeros-clause-values : goal.returns-in-Zeros-clause-values
returns-in-Zeros-clause-values c = sym (ap (λ (above : Extension). list_all is_value (above_digits above)) c.in-Zeros.is ∙ zeros-values c.in-Zeros.field-0)
