use Rattle.std.proofs.Common.{◌≡◌, ◌++◌, ◌∷◌, [], false, refl, subst, sym, ap, ◌∙◌}
use Rattle.std.specs.Prelude.{Some}
use Rattle.cnf_form.specs.Cnf.{ClauseWithin}
use Rattle.unit_propagation.specs.Propagator.{PropagatorOf}
use Rattle.unit_propagation.specs.Watch.{slots_of, rows_of}
use Rattle.unit_propagation.specs.Visit.{State, IsFiled, IsKept}
use Rattle.unit_propagation.specs.declared.watch.Head.{Head}
use Rattle.unit_propagation.proofs.Stores.{length-slots}
use Rattle.unit_propagation.proofs.States.{with_clause}
use Rattle.unit_propagation.proofs.Learning.{unlearnt}
use Rattle.unit_propagation.proofs.propagator.Propagator.add_watching.Goals as goal

pub invariant_of-self : goal.invariant_of-self
invariant_of-self c =
    let a = c.self.invariant.0 in
    let v = c.self.invariant.1 in
    let s : State = record { heads = c.self.inside.store.heads.items; rows = rows_of c.self.inside.lists.vars c.self.inside.lists.lists.items; trail = c.self.inside.trail.lits } in
    let st = c.file_clause.new.store in
    let rows = rows_of c.file_clause.new.lists.vars c.file_clause.new.lists.lists.items in
    let pairs = rows_of c.file_clause.new.pairs.vars c.file_clause.new.pairs.lists.items in
    let e = c.in_err-file_clause.ensures in
    let s' : State = record { heads = st.heads.items; rows = rows; trail = s.trail } in (
      record { limit = a.limit; store_vars = e.store_vars ∙ a.store_vars; lists_vars = e.lists_vars ∙ a.lists_vars; pairs_vars = e.pairs_vars ∙ a.pairs_vars; trail_vars = a.trail_vars; lists_clauses = e.lists_clauses; pairs_clauses = e.pairs_clauses },
      unlearnt _ _ s _ _ _ v _ s' pairs refl (length-slots st.lits.items st.heads.items) e.err (e.filed s.trail v.filed) (λ b less. e.err_kept b b),
    )

pub invariant_of-self-2 : goal.invariant_of-self-2
invariant_of-self-2 c =
    let a = c.self.invariant.0 in
    let v = c.self.invariant.1 in
    let s : State = record { heads = c.self.inside.store.heads.items; rows = rows_of c.self.inside.lists.vars c.self.inside.lists.lists.items; trail = c.self.inside.trail.lits } in
    let st = c.file_clause.new.store in
    let rows = rows_of c.file_clause.new.lists.vars c.file_clause.new.lists.lists.items in
    let pairs = rows_of c.file_clause.new.pairs.vars c.file_clause.new.pairs.lists.items in
    let zero = ap (λ (k : PropagatorOf). k.limits) c.self.view_is ∙ c.requires.level in
    let e = c.in_ok-file_clause.ensures in
    let w = e.heads in
    let within = subst (λ (k : PropagatorOf). ClauseWithin k.vars c.args.clause.now) (sym c.self.view_is) c.requires.within in
    let kept = subst (λ (k : PropagatorOf). c.args.conflict ≡ false → (k.conflict ≡ false) × ((h : Head) → h.left ≡ c.args.left → h.right ≡ c.args.right → IsKept k.trail k.trail (Some c.args.clause.now) h)) (sym c.self.view_is) c.requires.kept in
    let slots = slots_of c.self.inside.store.lits.items c.self.inside.store.heads.items in
    let filed : IsFiled (slots ++ Some c.args.clause.now ∷ []) (record { heads = s.heads ++ w.0 ∷ []; rows = rows; trail = s.trail }) pairs =
    subst (λ z. IsFiled z (record { heads = s.heads ++ w.0 ∷ []; rows = rows; trail = s.trail }) pairs) e.slots
    (subst (λ z. IsFiled (slots_of st.lits.items st.heads.items) (record { heads = z; rows = rows; trail = s.trail }) pairs) w.1 (e.filed s.trail v.filed)) in (
      record { limit = a.limit; store_vars = e.store_vars ∙ a.store_vars; lists_vars = e.lists_vars ∙ a.lists_vars; pairs_vars = e.pairs_vars ∙ a.pairs_vars; trail_vars = a.trail_vars; lists_clauses = e.lists_clauses; pairs_clauses = e.pairs_clauses },
      rw (e.slots, w.1) (with_clause _ _ s _ _ _ v c.args.clause.now w.0 rows pairs c.args.conflict zero within filed (λ g. let k = kept g in (k.0, k.1 w.0 w.2 w.3))),
    )
