use Rattle.std.proofs.Common.{◌<◌, length, refl, subst, sym, ap, ◌∙◌}
use Rattle.unit_propagation.specs.Watch.{slots_of, rows_of}
use Rattle.unit_propagation.specs.Propagator.{PropagatorOf}
use Rattle.unit_propagation.specs.Visit.{State}
use Rattle.unit_propagation.proofs.States.{less_clause}
use Rattle.unit_propagation.proofs.Filing.{filed_but}
use Rattle.unit_propagation.proofs.propagator.Propagator.remove_clause.Goals as goal

pub invariant_of-self : goal.invariant_of-self
invariant_of-self c =
    let i = c.self.invariant in
    let a = i.0 in
    let v = i.1 in
    let o = c.remove_clause.ensures in
    let s : State = record { heads = c.self.inside.store.heads.items; rows = rows_of c.self.inside.lists.vars c.self.inside.lists.lists.items; trail = c.self.inside.trail.lits } in
    let s' : State = record { heads = c.remove_clause.new.store.heads.items; rows = s.rows; trail = s.trail } in
    let slots = slots_of c.self.inside.store.lits.items c.self.inside.store.heads.items in (
      record { limit = a.limit; store_vars = o.store_vars ∙ a.store_vars; lists_vars = a.lists_vars; pairs_vars = o.pairs_vars ∙ a.pairs_vars; trail_vars = a.trail_vars; lists_clauses = a.lists_clauses ∙ sym o.store_count; pairs_clauses = o.pairs_clauses ∙ a.pairs_clauses ∙ sym o.store_count },
      less_clause _ slots s _ _ _ v c.args.k _ s' _ (ap (λ (k : PropagatorOf). k.limits) c.self.view_is ∙ c.requires.level) refl (subst (λ (k : PropagatorOf). c.args.k < length k.slots) (sym c.self.view_is) c.requires.clause) o.slots o.store_count (o.filed s.rows s.trail (filed_but c.args.k slots s _ v.filed)) o.kept,
    )
