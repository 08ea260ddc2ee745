use Rattle.std.proofs.Common.{sym, ap, subst, ◌∙◌}
use Rattle.std.specs.Prelude.{Contains}
use Rattle.unit_propagation.specs.Propagation.{IsUnassigned}
use Rattle.unit_propagation.specs.Propagator.{PropagatorOf}
use Rattle.unit_propagation.proofs.Filing.{kept_open}
use Rattle.unit_propagation.proofs.propagator.Propagator.attach.Goals as goal

pub add_watching-requires-clause-kept : goal.add_watching-requires-clause-kept
add_watching-requires-clause-kept c = λ g.
    let free = sym (ap (λ (k : PropagatorOf). k.conflict) c.add_watching.view_is) ∙ g in
    let t = c.args.self.now.trail in
    let cl = c.args.clause.now in (
      free,
      λ h l r. kept_open t t cl h (λ m i. i) (λ q. c.requires.two (sym l ∙ q ∙ r)) (subst (Contains cl) (sym l) c.requires.left) (subst (Contains cl) (sym r) c.requires.right)
          (subst (IsUnassigned t) (sym l) c.requires.left_open) (subst (IsUnassigned t) (sym r) c.requires.right_open),
    )
