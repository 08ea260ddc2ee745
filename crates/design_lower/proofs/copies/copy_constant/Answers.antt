use Rattle.std.proofs.Common.{◌∙◌, ◌++◌, ◌∷◌, [], List, ap, sym}
use Rattle.design_core.specs.declared.digit.Digit.{Digit}
use Rattle.design_lower.proofs.Distinct.{take-next}
use Rattle.design_lower.proofs.copies.copy_constant.Goals as goal

pub loop-place-preserved : goal.loop-place-preserved
loop-place-preserved c =
    c.in_ok-push.ensures.items ∙ (ap (λ (l : List Digit). l ++ c.digit.result ∷ []) c.loop-place.invariant ∙ sym (take-next c.args.constant.now c.loop-place.place c.digit.result c.digit.ensures))
