use Rattle.std.proofs.Common.{◌≡◌, ◌<◌, ◌≤◌, length, sym, subst, true, set, rules}
use Rattle.cnf_form.specs.Cnf.{index_of}
use Rattle.unit_propagation.specs.Marks.{IsTrail, IsPlaced, TrailOf}
use Rattle.unit_propagation.proofs.Trails.{trail_push, trail_longer, placed_push, placed_longer}
use Rattle.unit_propagation.proofs.trail.Trail.assign.Goals as goal

pub invariant_of-self : goal.invariant_of-self
invariant_of-self c =
    let k = c.self.inside in
    let i = c.self.invariant in
    let w = i.0 in
    let r = c.reach.ensures in
    let m = r.marks in
    let o = r.origins in
    let below = subst (λ (t : TrailOf). c.args.l.var ≤ t.vars) (sym c.self.view_is) c.requires.below in
    (trail_longer k.vars m.0 k.marks.items _ k.lits.items w m.1 (r.room k.vars below w.sized), placed_longer o.0 _ k.origins.items _ k.lits.items i.1 o.1)

pub invariant_of-self-in_err-push : goal.invariant_of-self-in_err-push
invariant_of-self-in_err-push c =
    let k = c.self.inside in
    let i = c.self.invariant in
    let w = i.0 in
    let r = c.reach.ensures in
    let m = r.marks in
    let o = r.origins in
    let below = subst (λ (t : TrailOf). c.args.l.var ≤ t.vars) (sym c.self.view_is) c.requires.below in
    let same : c.push.new.self.items ≡ k.lits.items = search rules in (
      subst (IsTrail k.vars c.reach.new.marks.items) (sym same) (trail_longer k.vars m.0 k.marks.items _ k.lits.items w m.1 (r.room k.vars below w.sized)),
      subst (IsPlaced c.reach.new.origins.items) (sym same) (placed_longer o.0 _ k.origins.items _ k.lits.items i.1 o.1),
    )

pub invariant_of-self-2 : goal.invariant_of-self-2
invariant_of-self-2 c =
    let k = c.self.inside in
    let i = c.self.invariant in
    let w = i.0 in
    let l = c.args.l in
    let p = c.in_ok-push.ensures in
    let r = c.reach.ensures in
    let m = r.marks in
    let o = r.origins in
    let marks = c.reach.new.marks.items in
    let origins = c.reach.new.origins.items in
    let below = subst (λ (t : TrailOf). l.var ≤ t.vars) (sym c.self.view_is) c.requires.below in
    let long : IsTrail k.vars marks k.lits.items = trail_longer k.vars m.0 k.marks.items marks k.lits.items w m.1 (r.room k.vars below w.sized) in
    let placed : IsPlaced origins k.lits.items = placed_longer o.0 _ k.origins.items origins k.lits.items i.1 o.1 in
    let place : index_of l < length marks = search rules in
    let var : l.var < length origins = search rules in (
      subst (λ z. IsTrail k.vars (set marks c.index.result true) z) (sym p.items) (rw c.index.ensures (trail_push k.vars marks k.lits.items l long below place (search rules))),
      subst (λ z. IsPlaced (set origins c.var.result (record { place = c.len-place.result; reason = c.args.reason })) z) (sym p.items)
          (rw c.var.ensures (placed_push origins k.lits.items l (record { place = c.len-place.result; reason = c.args.reason }) placed var (search rules) (search rules))),
    )
