use Rattle.std.proofs.Common.{◌∙◌, ◌-◌, Bool, List, ◌∷◌, ◌++◌, [], eqb, get_or, ap, sym, arith}
use Rattle.btor_text.proofs.Digits.{back_more, back_none}
use Rattle.btor_text.proofs.reading.bits_of.Goals as goal

pub loop-place-init : goal.loop-place-init
loop-place-init c = (omega arith, c.new-bits.ensures.items ∙ back_none c.args.digits.now)

pub loop-place-preserved : goal.loop-place-preserved
loop-place-preserved c =
    let n = c.loop-place.place in
    let ds = c.args.digits.now in
    let more = back_more ds n (omega arith) (omega arith) in
    (omega arith, ◌∙◌ {A = List Bool} c.in_ok-push.ensures.items (◌∙◌ {A = List Bool} (ap (λ (bs : List Bool). bs ++ eqb (get_or ds (n - 1) 0) 49 ∷ []) c.loop-place.invariant.1) (sym more)))
