use Rattle.std.proofs.Common.{arith, subst}
use Rattle.std.proofs.lemmas.List.{take_all}
use Rattle.unit_propagation.specs.Propagation.{IsFixpoint}
use Rattle.unit_propagation.specs.Propagator.{clauses_of}
use Rattle.cdcl_core.proofs.Thawing.{fixpoint_take}
use Rattle.cdcl_core.proofs.thaw.are_settled.Goals as goal

pub loop-k-preserved : goal.loop-k-preserved
loop-k-preserved c =
    let i = c.loop-k.invariant in
    let e = c.len-k-end.ensures in
    let z = c.args.frozen.now.slots in
    record { done = fixpoint_take c.args.core.now.trail z c.loop-k.k (omega (arith, c.loop-k-test.true, c.loop-k.auto, e.count)) i.done (c.is_settled_at.ensures c.if-not-is_settled_at.false) }

pub returns : goal.returns
returns c h =
    let i = c.loop-k.invariant in
    let e = c.len-k-end.ensures in
    let z = c.args.frozen.now.slots in
    subst (λ y. IsFixpoint c.args.core.now.trail (clauses_of y)) (take_all c.loop-k.k z (omega (arith, c.loop-k-test.false, c.loop-k.auto, e.count))) i.done
