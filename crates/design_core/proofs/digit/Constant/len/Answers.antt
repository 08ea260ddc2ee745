use Rattle.std.proofs.Common.{◌≡◌, ◌∙◌, List, length, ap, sym}
use Rattle.design_core.specs.Digits.{number_digits}
use Rattle.design_core.specs.Constants.{digits_in}
use Rattle.design_core.specs.declared.digit.Digit.{Digit}
use Rattle.design_core.proofs.Numbers.{number-length}
use Rattle.design_core.proofs.digit.Constant.len.Goals as goal

pub returns-in-Number : goal.returns-in-Number
returns-in-Number c =
    let shown : c.args.self.now ≡ number_digits c.in-Number.width c.in-Number.field-0 = sym c.self.view_is ∙ ap digits_in c.in-Number.is in
    sym (ap (λ (l : List Digit). length l) shown ∙ number-length c.in-Number.width c.in-Number.field-0)
