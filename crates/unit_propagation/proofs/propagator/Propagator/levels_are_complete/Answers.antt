use Rattle.std.proofs.Common.{ℕ, ◌≤◌, take, length, subst}
use Rattle.std.specs.Prelude.{◌<◌, Contains, slice_index_or}
use Rattle.unit_propagation.specs.Propagation.{IsFixpoint}
use Rattle.unit_propagation.specs.Propagator.{PropagatorOf, clauses_of}
use Rattle.unit_propagation.proofs.Learning.{fixpoint_at}
use Rattle.unit_propagation.proofs.propagator.Propagator.levels_are_complete.Goals as goal

pub returns-clause-within : goal.returns-clause-within
returns-clause-within c =
    let v = c.self.invariant.1 in
    subst (λ (k : PropagatorOf). (n : ℕ) → Contains k.limits n → n ≤ length k.trail) c.self.view_is (λ n k. let y = v.levels n k in y.0)

pub returns-clause-fixpoint : goal.returns-clause-fixpoint
returns-clause-fixpoint c =
    subst (λ (k : PropagatorOf). (n : ℕ) → Contains k.limits n → IsFixpoint (take n k.trail) (clauses_of k.slots)) c.self.view_is (λ n k. fixpoint_at _ _ _ _ _ _ c.self.invariant.1 n k)

pub returns-clause-rising : goal.returns-clause-rising
returns-clause-rising c =
    let v = c.self.invariant.1 in
    subst (λ (k : PropagatorOf). (i j : ℕ) → i ≤ j → j < length k.limits → slice_index_or k.limits i 0 ≤ slice_index_or k.limits j 0) c.self.view_is (λ i j h k. v.rising i j 0 h k)
