use Rattle.std.proofs.Common.{◌∙◌, sym, ap, ℕ, ◌+◌}
use Rattle.rtlil_constant.specs.Constants.{open_digits}
use Rattle.rtlil_constant.proofs.DigitLemmas.{open_below, open_past}
use Rattle.rtlil_constant.proofs.digits.Digits.open_count.Goals as goal

pub returns-then-is_open : goal.returns-then-is_open
returns-then-is_open c =
    let r = c.parts-fill.result in
    ap (λ (n : ℕ). r.1 + n) c.open_digits.ensures.count
    ∙ sym (open_below r.1 r.0 r.2.now (sym c.is_open.ensures ∙ c.if-is_open.true))
    ∙ ap open_digits (sym c.parts-fill.ensures.digits)

pub returns-else-is_open : goal.returns-else-is_open
returns-else-is_open c =
    let r = c.parts-fill.result in
    c.open_digits-else-is_open.ensures.count
    ∙ sym (open_past r.1 r.0 r.2.now (sym c.is_open.ensures ∙ c.if-is_open.false))
    ∙ ap open_digits (sym c.parts-fill.ensures.digits)
