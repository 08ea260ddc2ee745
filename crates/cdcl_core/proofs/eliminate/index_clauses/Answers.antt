use Rattle.std.proofs.Common.{◌∙◌, ◌++◌, ◌∷◌, [], ap, arith, subst, sym}
use Rattle.std.specs.Prelude.{Contains}
use Rattle.std.proofs.lemmas.List.{take_all}
use Rattle.unit_propagation.specs.Propagator.{clauses_of, slot_at}
use Rattle.frozen_clauses.specs.Frozen.{FrozenOf}
use Rattle.cdcl_core.proofs.Reductions.{take_slot}
use Rattle.cdcl_core.proofs.eliminate.index_clauses.Goals as goal

pub loop-k-init : goal.loop-k-init
loop-k-init c = record { vars = ap (λ (x : FrozenOf). x.vars) c.in_ok-index.ensures ∙ c.vars.ensures.vars; slots = ap (λ (x : FrozenOf). clauses_of x.slots) c.in_ok-index.ensures }

pub loop-k-preserved : goal.loop-k-preserved
loop-k-preserved c =
    let i = c.loop-k.invariant in
    let e = c.in_ok-index_next.ensures in
    let n = c.len-k-end.ensures in
    let slots = c.args.core.now.slots in
    let k = c.loop-k.k in
    record {
      vars = e.vars ∙ i.vars;
      slots = e.slots ∙ ap (λ z. z ++ clauses_of (slot_at slots k ∷ [])) i.slots ∙ sym (take_slot slots k (omega (arith, c.loop-k-test.true, c.loop-k.auto, n.count)));
    }

pub returns : goal.returns
returns c =
    let i = c.loop-k.invariant in
    let n = c.len-k-end.ensures in
    let slots = c.args.core.now.slots in
    let all = i.slots ∙ ap clauses_of (take_all c.loop-k.k slots (omega (arith, c.loop-k-test.false, c.loop-k.auto, n.count))) in
    record { vars = i.vars; all = record { each = λ d h. subst (λ z. Contains z d) (sym all) h } }
