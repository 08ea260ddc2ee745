use Rattle.std.proofs.Common.{◌∙◌, ◌^◌, sym}
use Rattle.design_signals.proofs.RowLemmas.{if_ok}
use Rattle.design_reader.proofs.DigitLemmas.{free_is, open_all, open_left, zeros_is}
use Rattle.design_reader.proofs.parameter_digits.numbered_digits.Goals as goal

pub row_below_free-requires : goal.row_below_free-requires
row_below_free-requires c =
    let r = c.parts-fill.result in
    open_left r.1 r.0 c.args.first (2 ^ 32) c.args.digits.now r.2.now c.parts-fill.ensures.digits c.requires (sym c.is_open.ensures ∙ c.if-is_open.true)

pub returns-then-is_open : goal.returns-then-is_open
returns-then-is_open c =
    let r = c.parts-fill.result in
    if_ok c.new.result _ _
    (λ kept e. e ∙ c.in_ok-row.ensures ∙ free_is c.args.first r.1 r.0 c.args.digits.now r.2.now c.parts-fill.ensures.digits (sym c.is_open.ensures ∙ c.if-is_open.true))
    c.new.ensures

pub row_below_zeros-requires : goal.row_below_zeros-requires
row_below_zeros-requires c =
    let r = c.parts-fill.result in
    open_all r.1 r.0 c.args.first (2 ^ 32) c.args.digits.now r.2.now c.parts-fill.ensures.digits c.requires (sym c.is_open.ensures ∙ c.if-is_open.false)

pub returns : goal.returns
returns c =
    let r = c.parts-fill.result in
    if_ok c.extended.result _ _
    (λ kept e. e ∙ rw c.in_ok-row-2.ensures
    (zeros_is c.args.first r.1 r.0 c.args.digits.now r.2.now c.parts-fill.ensures.digits c.parts-fill.ensures.fill (sym c.is_open.ensures ∙ c.if-is_open.false)))
    c.extended.ensures
