use Rattle.std.proofs.Common.{sym, ap, ◌∙◌}
use Rattle.unit_propagation.specs.Propagator.{PropagatorOf}
use Rattle.unit_propagation.proofs.Filing.{kept_loose}
use Rattle.unit_propagation.proofs.propagator.Propagator.add_loose.Goals as goal

pub add_watching-requires-clause-kept : goal.add_watching-requires-clause-kept
add_watching-requires-clause-kept c = λ g.
    let free = sym (ap (λ (k : PropagatorOf). k.conflict) c.add_watching.view_is) ∙ g in
    let t = c.args.self.now.trail in
    (free, λ h l r. kept_loose t t c.args.clause.now h (l ∙ sym r) (c.requires.satisfied free))
