use Rattle.std.proofs.Common.{◌≡◌, false, subst}
use Rattle.unit_propagation.specs.Propagation.{IsFixpoint}
use Rattle.unit_propagation.specs.Propagator.{PropagatorOf, clauses_of}
use Rattle.unit_propagation.proofs.States.{fixpoint}
use Rattle.unit_propagation.proofs.propagator.Propagator.conflict.Goals as goal

pub returns-clause-fixpoint : goal.returns-clause-fixpoint
returns-clause-fixpoint c =
    subst (λ (k : PropagatorOf). k.conflict ≡ false → IsFixpoint k.trail (clauses_of k.slots)) c.self.view_is
    (λ e. fixpoint _ _ _ _ _ _ c.self.invariant.1 e)
