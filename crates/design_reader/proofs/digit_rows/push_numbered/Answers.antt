use Rattle.std.proofs.Common.{◌∙◌, ◌∷◌, ◌^◌, ap, List}
use Rattle.design_signals.specs.declared.sig_bit.SigBit.{SigBit}
use Rattle.design_signals.proofs.RowLemmas.{on_ok}
use Rattle.design_reader.proofs.DigitLemmas.{bits_are, open_behind, open_run}
use Rattle.design_reader.proofs.digit_rows.push_numbered.Goals as goal

pub number_behind-behind-requires : goal.number_behind-behind-requires
number_behind-behind-requires c =
    let r = c.parts-fill.result in
    open_run r.1 r.0 c.args.first (2 ^ 32) c.args.digits.now r.2.now c.parts-fill.ensures.digits c.requires

pub numbered_below-requires-clause-fits : goal.numbered_below-requires-clause-fits
numbered_below-requires-clause-fits c =
    let r = c.parts-fill.result in
    rw c.number_behind-behind.ensures (open_behind r.1 r.0 c.args.first (2 ^ 32) c.args.digits.now r.2.now c.parts-fill.ensures.digits c.requires)

pub returns : goal.returns
returns c =
    let r = c.parts-fill.result in
    on_ok c.numbered_below.result _ _
    (λ e. e ∙ rw c.in_ok-push_run.ensures
    (ap (λ (x : List SigBit). x ∷ c.args.segments.now) (bits_are c.args.first _ r.1 r.0 c.args.digits.now r.2.now c.parts-fill.ensures.digits c.number_behind-behind.ensures)))
    c.numbered_below.ensures
