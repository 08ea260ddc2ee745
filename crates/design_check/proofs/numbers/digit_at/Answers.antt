use Rattle.std.proofs.Common.{◌+◌, ◌∙◌, List, ap, sym, arith}
use Rattle.std.proofs.lemmas.List.{drop_all}
use Rattle.std.proofs.lemmas.Option.{slice_get_within, get_or_from_slice_get}
use Rattle.design_core.specs.Digits.{digit_number, digits_number}
use Rattle.design_core.specs.declared.digit.Digit.{Digit}
use Rattle.design_core.proofs.Numbers.{digits_number-drop}
use Rattle.design_check.proofs.numbers.digit_at.Goals as goal

pub returns-then-place-len-clause-digit : goal.returns-then-place-len-clause-digit
returns-then-place-len-clause-digit c =
    let xs = c.args.constant.now in
    let at = slice_get_within xs c.args.place c.digit.result c.digit.ensures in
    let same = c.digit_number.ensures.value ∙ ap (λ (x : Digit). digit_number x) (sym (get_or_from_slice_get xs c.args.place c.digit.result c.digit.result c.digit.ensures)) in
    omega (arith, digits_number-drop c.args.place xs c.digit.result at, same)

pub returns-else-place-len-clause-digit : goal.returns-else-place-len-clause-digit
returns-else-place-len-clause-digit c =
    let xs = c.args.constant.now in
    let here = ap (λ (l : List Digit). digits_number l) (drop_all c.args.place xs (omega (arith, c.if-place-len.false, c.len.ensures))) in
    let next = ap (λ (l : List Digit). digits_number l) (drop_all (c.args.place + 1) xs (omega (arith, c.if-place-len.false, c.len.ensures))) in
    omega (arith, here, next)
