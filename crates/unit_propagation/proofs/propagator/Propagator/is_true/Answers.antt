use Rattle.std.proofs.Common.{subst}
use Rattle.std.specs.Prelude.{IsTrue, ◌↔◌, Contains}
use Rattle.unit_propagation.specs.Propagator.{PropagatorOf}
use Rattle.unit_propagation.proofs.propagator.Propagator.is_true.Goals as goal

pub returns : goal.returns
returns c = subst (λ (k : PropagatorOf). IsTrue c.is_true.result ↔ Contains k.trail c.args.l) c.self.view_is c.is_true.ensures
