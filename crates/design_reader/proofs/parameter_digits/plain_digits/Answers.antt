use Rattle.std.proofs.Common.{◌∙◌}
use Rattle.design_signals.proofs.RowLemmas.{if_ok}
use Rattle.design_reader.proofs.DigitLemmas.{plain_is}
use Rattle.design_reader.proofs.parameter_digits.plain_digits.Goals as goal

pub returns : goal.returns
returns c =
    let r = c.parts-fill.result in
    if_ok c.extended.result _ _
    (λ kept e. e ∙ rw (c.in_ok-row.ensures, c.above.ensures) (plain_is r.1 r.0 c.args.digits.now r.2.now c.parts-fill.ensures.digits))
    c.extended.ensures
