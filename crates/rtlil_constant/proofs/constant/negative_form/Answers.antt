use Rattle.std.proofs.Common.{refl, arith, ◌≡◌}
use Rattle.rtlil_constant.proofs.constant.negative_form.Goals as goal

pub returns-then-number-eq0 : goal.returns-then-number-eq0
returns-then-number-eq0 c =
    let s = c.in_ok-number.ensures in
    let zero : s.0 ≡ 0 = omega (arith, s.2, c.if-number-eq0.true) in
    (_, rw (s.1, zero) refl, refl)
