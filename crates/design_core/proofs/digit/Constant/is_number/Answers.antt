use Rattle.std.proofs.Common.{◌≡◌, ◌∙◌, List, ap, sym}
use Rattle.design_core.specs.Digits.{is_number, number_digits}
use Rattle.design_core.specs.Constants.{digits_in}
use Rattle.design_core.specs.declared.digit.Digit.{Digit}
use Rattle.design_core.proofs.Numbers.{number-is_number}
use Rattle.design_core.proofs.digit.Constant.is_number.Goals as goal

pub returns-in-Number : goal.returns-in-Number
returns-in-Number c =
    let shown : c.args.self.now ≡ number_digits c.in-Number.field-1 c.in-Number.field-0 = sym c.self.view_is ∙ ap digits_in c.in-Number.is in
    sym (ap (λ (l : List Digit). is_number l) shown ∙ number-is_number c.in-Number.field-1 c.in-Number.field-0)
