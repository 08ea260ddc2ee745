use Rattle.std.proofs.Common.{◌≡◌, ◌∙◌, List, ap, arith, drop, length, sym}
use Rattle.design_core.specs.Digits.{digits_number, number_digits}
use Rattle.design_core.specs.Constants.{digits_in}
use Rattle.design_core.specs.declared.digit.Digit.{Digit}
use Rattle.design_core.specs.declared.digit.LongDigits.{LongDigits}
use Rattle.design_core.proofs.Numbers.{kept-above, number-above, number-length}
use Rattle.design_core.proofs.digit.Constant.kept.Goals as goal

pub returns-in-Number-clause-within : goal.returns-in-Number-clause-within
returns-in-Number-clause-within c =
    let shown : c.args.self.now ≡ number_digits c.in-Number.width c.in-Number.field-0 = sym c.self.view_is ∙ ap digits_in c.in-Number.is in
    omega (arith, ap (λ (l : List Digit). length l) shown, number-length c.in-Number.width c.in-Number.field-0)

pub returns-in-Number-clause-above : goal.returns-in-Number-clause-above
returns-in-Number-clause-above c =
    let shown : c.args.self.now ≡ number_digits c.in-Number.width c.in-Number.field-0 = sym c.self.view_is ∙ ap digits_in c.in-Number.is in
    ap (λ (l : List Digit). digits_number (drop c.in-Number.width l)) shown ∙ number-above c.in-Number.width c.in-Number.field-0

pub returns-in-Digits-clause-above : goal.returns-in-Digits-clause-above
returns-in-Digits-clause-above c =
    let long = c.in-Digits.long.value in
    let kept = c.as_slice.ensures.value ∙ ap (λ (l : LongDigits). l.digits.items) c.deref.ensures in
    ap (λ (ds : List Digit). digits_number (drop (length ds) c.args.self.now)) kept
    ∙ (ap (λ (l : List Digit). digits_number (drop (length long.digits.items) l)) (sym c.self.view_is ∙ ap digits_in c.in-Digits.is) ∙ kept-above long.digits.items long.above)
