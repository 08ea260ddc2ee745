use Rattle.std.proofs.Common.{◌<◌, ◌≤◌, length, subst, sym}
use Rattle.unit_propagation.specs.Propagator.{PropagatorOf}
use Rattle.unit_propagation.proofs.propagator.Propagator.limit.Goals as goal

pub returns-clause-within : goal.returns-clause-within
returns-clause-within c =
    let v = c.self.invariant.1 in
    let room : c.args.level < length c.self.inside.limits.items = subst (λ (k : PropagatorOf). c.args.level < length k.limits) (sym c.self.view_is) c.requires in
    let y = v.levels c.index.result.now (c.args.level, room, sym c.index.ensures) in
    subst (λ (k : PropagatorOf). c.index.result.now ≤ length k.trail) c.self.view_is y.0
