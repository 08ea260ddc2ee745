use Rattle.std.proofs.Common.{◌≡◌, subst, sym, ◌∙◌, rules}
use Rattle.std.specs.Prelude.{Contains}
use Rattle.unit_propagation.specs.Marks.{TrailOf, is_marked}
use Rattle.unit_propagation.proofs.trail.Trail.is_true.Goals as goal

pub returns : goal.returns
returns c =
    let w = c.self.invariant.0 in
    let s = w.shows in
    let l = c.args.l in
    let at : c.is_marked.result ≡ is_marked c.self.inside.marks.items l = search rules in (
      λ h. subst (λ (t : TrailOf). Contains t.lits l) c.self.view_is (s.off l (sym at ∙ h)),
      λ h. at ∙ s.on l (subst (λ (t : TrailOf). Contains t.lits l) (sym c.self.view_is) h),
    )
