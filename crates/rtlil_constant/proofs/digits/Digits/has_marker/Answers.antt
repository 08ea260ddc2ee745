use Rattle.std.proofs.Common.{◌∙◌, sym, ap, List, ℕ, Bool, ◌||◌}
use Rattle.std.specs.List.{list_any}
use Rattle.rtlil_constant.specs.Constants.{is_marker}
use Rattle.rtlil_constant.proofs.DigitLemmas.{any_below}
use Rattle.rtlil_constant.proofs.digits.Digits.has_marker.Goals as goal

pub returns-else-is_marker : goal.returns-else-is_marker
returns-else-is_marker c =
    let r = c.parts-fill.result in
    c.any_marker.ensures
    ∙ ap (λ (b : Bool). b || list_any is_marker r.2.now) (sym (sym c.is_marker.ensures ∙ c.if-is_marker.false))
    ∙ sym (any_below is_marker r.1 r.0 r.2.now c.if-fills-gt0.true)
    ∙ ap (λ (x : List ℕ). list_any is_marker x) (sym c.parts-fill.ensures.digits)
