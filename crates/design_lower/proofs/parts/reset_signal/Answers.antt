use Rattle.std.proofs.Common.{◌∙◌, ◌++◌, ◌∷◌, [], List, map, ap, sym}
use Rattle.design_core.specs.declared.digit.Digit.{Digit}
use Rattle.design_signals.specs.declared.sig_bit.SigBit.{SigBit}
use Rattle.design_lower.specs.Lowering.{digit_bit}
use Rattle.design_lower.proofs.Distinct.{map-push, take-next}
use Rattle.design_lower.proofs.parts.reset_signal.Goals as goal

pub loop-place-preserved : goal.loop-place-preserved
loop-place-preserved c =
    let xs = c.in-Some.constant.now in
    let next = take-next c.in-Some.constant.now c.loop-place.place c.digit.result c.digit.ensures in
    c.in_ok-push.ensures.ok
    ∙ (ap (λ (l : List SigBit). c.loop-place.signal ++ l) c.digit_chunk.ensures.bit
    ∙ (ap (λ (l : List SigBit). l ++ digit_bit c.digit.result ∷ []) c.loop-place.invariant
    ∙ sym (ap (λ (l : List Digit). map digit_bit l) next ∙ map-push digit_bit _ c.digit.result)))
