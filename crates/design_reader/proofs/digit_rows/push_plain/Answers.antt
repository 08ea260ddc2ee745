use Rattle.std.proofs.Common.{◌∙◌, ◌∷◌, ap, List}
use Rattle.design_signals.specs.declared.sig_bit.SigBit.{SigBit}
use Rattle.design_signals.proofs.RowLemmas.{on_ok}
use Rattle.design_reader.proofs.DigitLemmas.{plain_bits}
use Rattle.design_reader.proofs.digit_rows.push_plain.Goals as goal

pub returns : goal.returns
returns c =
    let r = c.parts-fill.result in
    on_ok c.plain_below.result _ _
    (λ e. e ∙ rw c.in_ok-push_plain_run.ensures (ap (λ (x : List SigBit). x ∷ c.args.segments.now) (plain_bits r.1 r.0 c.args.digits.now r.2.now c.parts-fill.ensures.digits)))
    c.plain_below.ensures
