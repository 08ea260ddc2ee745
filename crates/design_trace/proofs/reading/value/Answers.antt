use Rattle.std.proofs.Common.{◌++◌, [], ◌∷◌, ℕ, List, None, Some, replicate, sym, subst}
use Rattle.std.specs.Prelude.{slice_range}
use Rattle.design_trace.specs.Reading.{Reads, bits_of}
use Rattle.design_trace.proofs.Lines.{digits_are_value, digits_match_all}
use Rattle.design_trace.proofs.Readings.{handed_on, reads_then, stops_first, stops_later}
use Rattle.design_trace.proofs.reading.value.Goals as goal

pub returns-in_err-end : goal.returns-in_err-end
returns-in_err-end c = handed_on c.from_residual.result c.in_err-end.field-0.0 _ _ _ c.from_residual.ensures.1
    (λ byte. stops_first c.args.bytes.now c.args.at byte (replicate c.args.width None) (Some 10 ∷ [])) c.in_err-end.ensures

pub returns-in_err-next : goal.returns-in_err-next
returns-in_err-next c =
    let digits = slice_range c.args.bytes.now c.args.at c.in_ok-end.end in
    handed_on c.from_residual-in_err-next.result c.in_err-next.field-0.0 _ _ _ c.from_residual-in_err-next.ensures.1
    (λ byte. stops_later c.args.bytes.now c.args.at c.in_ok-end.end byte digits (replicate c.args.width None) (Some 10 ∷ [])
    c.in_ok-end.ensures.0 (digits_match_all c.args.width digits c.in_ok-end.ensures.1)) c.in_err-next.ensures

pub returns : goal.returns
returns c =
    let digits = slice_range c.args.bytes.now c.args.at c.in_ok-end.end in
    let back = digits_are_value c.args.width digits c.in_ok-end.ensures.1 in
    let read = reads_then c.args.bytes.now c.args.at c.in_ok-end.end c.in_ok-next.next digits (10 ∷ []) c.in_ok-end.ensures.0 c.in_ok-next.ensures in
    (bits_of digits, c.in_ok-push_bits.ensures, back.1, subst (λ (t : List ℕ). Reads c.args.bytes.now c.args.at (t ++ 10 ∷ []) c.in_ok-next.next) (sym back.0) read)
