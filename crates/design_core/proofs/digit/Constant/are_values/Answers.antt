use Rattle.std.proofs.Common.{◌≡◌, ◌∙◌, List, ap, sym}
use Rattle.std.specs.List.{list_all}
use Rattle.design_core.specs.Digits.{is_value, number_digits}
use Rattle.design_core.specs.Constants.{digits_in}
use Rattle.design_core.specs.declared.digit.Digit.{Digit}
use Rattle.design_core.proofs.Numbers.{number-are_values}
use Rattle.design_core.proofs.digit.Constant.are_values.Goals as goal

pub returns-in-Number : goal.returns-in-Number
returns-in-Number c =
    let shown : c.args.self.now ≡ number_digits c.in-Number.field-1 c.in-Number.field-0 = sym c.self.view_is ∙ ap digits_in c.in-Number.is in
    sym (ap (λ (l : List Digit). list_all is_value l) shown ∙ number-are_values c.in-Number.field-1 c.in-Number.field-0)
