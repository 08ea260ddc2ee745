use Rattle.std.proofs.Common.{◌∙◌, ap, sym, arith, ◌++◌, ◌∷◌, []}
use Rattle.unit_propagation.specs.Propagator.{slot_at}
use Rattle.std.proofs.lemmas.List.{take_all}
use Rattle.hint_chain.specs.Kept.{kept}
use Rattle.hint_chain.proofs.Naming.{kept_step}
use Rattle.hint_chain.proofs.ids.kept.Goals as goal

pub loop-k-preserved : goal.loop-k-preserved
loop-k-preserved c =
    let i = c.loop-k.invariant in
    let e = c.len-k-end.ensures in
    record { so_far = c.in_ok-keep_next.ensures ∙ ap (λ z. z ++ kept c.args.ids.now c.loop-k.k (slot_at c.args.core.now.slots c.loop-k.k ∷ [])) i.so_far ∙ sym (kept_step c.args.ids.now c.args.core.now.slots c.loop-k.k (omega (arith, c.loop-k-test.true, c.loop-k.auto, e.count))) }

pub returns : goal.returns
returns c =
    let i = c.loop-k.invariant in
    let e = c.len-k-end.ensures in
    i.so_far ∙ ap (λ z. kept c.args.ids.now 0 z) (take_all c.loop-k.k c.args.core.now.slots (omega (arith, c.loop-k-test.false, c.loop-k.auto, e.count)))
