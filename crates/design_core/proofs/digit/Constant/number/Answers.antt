use Rattle.std.proofs.Common.{◌≡◌, ◌∙◌, ap, sym, subst}
use Rattle.design_core.specs.Digits.{is_number, digits_number, number_digits}
use Rattle.design_core.specs.Constants.{digits_in, IsConstant}
use Rattle.design_core.specs.declared.digit.ConstantParts.{ConstantParts}
use Rattle.design_core.proofs.Numbers.{number-is_number, number-number}
use Rattle.design_core.proofs.digit.Constant.number.Goals as goal

pub returns-in-Number-clause-some : goal.returns-in-Number-clause-some
returns-in-Number-clause-some c =
    let w = c.in-Number.field-1 in
    let v = c.in-Number.value in
    let shown : c.args.self.now ≡ number_digits w v = sym c.self.view_is ∙ ap digits_in c.in-Number.is in
    let P : ConstantParts → Type 0 = λ a. IsConstant a in
    let fits = subst P c.in-Number.is c.self.invariant in
    (ap is_number shown ∙ number-is_number w v, sym (ap digits_number shown ∙ number-number w v fits.1))
