use Rattle.std.proofs.Common.{◌<◌, ◌^◌, ◌∙◌, ℕ, length, ap, sym, subst, arith}
use Rattle.design_core.specs.Digits.{number_digits}
use Rattle.design_lower.proofs.Numbers.{number-below, number-same}
use Rattle.design_lower.proofs.copies.copy_number.Goals as goal

pub number_of-requires-clause-fits : goal.number_of-requires-clause-fits
number_of-requires-clause-fits c =
    let s = c.in-Some.ensures.some in
    let P : ℕ → Type 0 = λ n. c.in-Some.number < 2 ^ n in
    let below : c.in-Some.number < 2 ^ length c.args.constant.now = omega (arith, number-below c.args.constant.now, s.1) in
    subst P (sym c.len-len.ensures) below

pub returns-in-Some : goal.returns-in-Some
returns-in-Some c =
    let s = c.in-Some.ensures.some in
    c.number_of.ensures
    ∙ (ap (λ (n : ℕ). number_digits n c.in-Some.number) c.len-len.ensures
    ∙ (ap (λ (v : ℕ). number_digits (length c.args.constant.now) v) s.1 ∙ number-same c.args.constant.now s.0))
