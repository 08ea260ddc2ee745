use Rattle.std.proofs.Common.{◌∙◌, arith}
use Rattle.design_reader.proofs.DigitLemmas.{start_is}
use Rattle.design_reader.proofs.start.start.Goals as goal

pub returns : goal.returns
returns c =
    let r = c.parts-fill.result in
    c.new.ensures ∙ rw (c.in_ok-push_copies.ensures, c.start_digit.ensures)
    (start_is c.args.width r.1 r.0 _ c.args.digits.now r.2.now c.in_ok-start.start.items c.parts-fill.ensures.digits c.in_ok-start.ensures (omega arith))
