use Rattle.std.proofs.Common.{◌≡◌, ◌∙◌, ◌<◌, List, length, ap, sym, subst, arith}
use Rattle.std.specs.Prelude.{slice_get}
use Rattle.design_core.specs.Digits.{number_digits}
use Rattle.design_core.specs.Constants.{digits_in, IsConstant}
use Rattle.design_core.specs.declared.digit.Digit.{Digit}
use Rattle.design_core.specs.declared.digit.ConstantParts.{ConstantParts}
use Rattle.design_core.proofs.Numbers.{number-length, number-digit}
use Rattle.design_core.proofs.digit.Constant.digit.Goals as goal

pub overflow_shr-result : goal.overflow_shr-result
overflow_shr-result c =
    let shown : c.args.self.now ≡ number_digits c.in-Number.field-1 c.in-Number.value = sym c.self.view_is ∙ ap digits_in c.in-Number.is in
    let P : ConstantParts → Type 0 = λ a. IsConstant a in
    let fits = subst P c.in-Number.is c.self.invariant in
    omega (arith, c.requires, ap (λ (l : List Digit). length l) shown, number-length c.in-Number.field-1 c.in-Number.value, fits.0)

pub returns-in-Number : goal.returns-in-Number
returns-in-Number c =
    let shown : c.args.self.now ≡ number_digits c.in-Number.field-1 c.in-Number.value = sym c.self.view_is ∙ ap digits_in c.in-Number.is in
    let within : c.args.place < c.in-Number.field-1 = omega (arith, c.requires, ap (λ (l : List Digit). length l) shown, number-length c.in-Number.field-1 c.in-Number.value) in
    ap (λ (l : List Digit). slice_get l c.args.place) shown ∙ number-digit c.in-Number.field-1 c.in-Number.value c.args.place within
