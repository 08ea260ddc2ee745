use Rattle.std.proofs.Common.{◌≡◌, ◌<◌, take, length, subst, sym, ap, ◌∙◌}
use Rattle.unit_propagation.specs.Watch.{rows_of}
use Rattle.unit_propagation.specs.Marks.{TrailOf}
use Rattle.unit_propagation.specs.Propagator.{PropagatorOf}
use Rattle.unit_propagation.specs.Visit.{State}
use Rattle.unit_propagation.proofs.States.{undone}
use Rattle.unit_propagation.proofs.propagator.Propagator.backtrack.Goals as goal

pub invariant_of-self : goal.invariant_of-self
invariant_of-self c =
    let i = c.self.invariant in
    let a = i.0 in
    let s : State = record { heads = c.self.inside.store.heads.items; rows = rows_of c.self.inside.lists.vars c.self.inside.lists.lists.items; trail = c.self.inside.trail.lits } in
    let lits : c.cut.new.self.lits ≡ take c.index-limit.result.now s.trail = ap (λ (t : TrailOf). t.lits) c.cut.ensures in
    let vars : c.cut.new.self.vars ≡ c.self.inside.trail.vars = ap (λ (t : TrailOf). t.vars) c.cut.ensures in
    let t = c.truncate.ensures in
    let room : c.args.level < length c.self.inside.limits.items = subst (λ (k : PropagatorOf). c.args.level < length k.limits) (sym c.self.view_is) c.requires in
    let g = undone _ _ s _ _ _ i.1 c.args.level c.index-limit.result.now room c.index-limit.ensures in (
      record { limit = a.limit; store_vars = a.store_vars; lists_vars = a.lists_vars; pairs_vars = a.pairs_vars; trail_vars = vars ∙ a.trail_vars; lists_clauses = a.lists_clauses; pairs_clauses = a.pairs_clauses },
      rw (lits, t.items) g,
    )
