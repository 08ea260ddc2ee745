use Rattle.std.proofs.Common.{◌≡◌, [], rules, sym, ap, subst}
use Rattle.unit_propagation.specs.Propagator.{PropagatorOf, clauses_of}
use Rattle.drup_check.specs.Inside.{IsFree}
use Rattle.drup_check.proofs.Weights.{free_none}
use Rattle.drup_check.proofs.Present.{root_fresh, filed_fresh}
use Rattle.drup_check.proofs.Checker.empty.Goals as goal

pub invariant_of-result : goal.invariant_of-result
invariant_of-result c =
    let e = c.in_ok-core.ensures in
    let slots = ap (λ (z : PropagatorOf). z.slots) e in
    let marks : c.new-3.result.items ≡ [] = search rules in
    let others : c.new-4.result.items ≡ [] = search rules in (
      root_fresh _ slots (ap (λ (z : PropagatorOf). z.trail) e) (ap (λ (z : PropagatorOf). z.limits) e) (ap (λ (z : PropagatorOf). z.conflict) e),
      subst (λ s. IsFree (clauses_of s) c.new-3.result.items) (sym slots) (subst (IsFree []) (sym marks) free_none),
      subst (λ s. IsFree (clauses_of s) c.new-4.result.items) (sym slots) (subst (IsFree []) (sym others) free_none),
      filed_fresh _ _ c.in_ok-new.field-0 slots c.in_ok-new.ensures.count,
    )
