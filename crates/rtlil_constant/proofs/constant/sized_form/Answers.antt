use Rattle.std.proofs.Common.{arith, refl, sym, ◌∙◌}
use Rattle.rtlil_constant.specs.Constants.{extended}
use Rattle.rtlil_constant.proofs.ConstantLemmas.{sized_yes}
use Rattle.rtlil_constant.proofs.constant.sized_form.Goals as goal

pub returns-then-are_digits : goal.returns-then-are_digits
returns-then-are_digits c =
    let s = c.in_ok-number.ensures in
    let digits = c.unmarked-digits.result.now in (
      extended s.0 digits,
      rw (s.1, ← c.unmarked-digits.ensures) (sized_yes c.args.least s.0 c.in_ok-number.number digits s.2 c.if-digits-least.true c.if-digits-number.true (sym c.are_digits.ensures ∙ c.if-are_digits.true)),
      (s.0, s.2, omega (arith, s.2, c.if-digits-number.true), refl),
    )
