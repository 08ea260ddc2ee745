use Rattle.std.proofs.Common.{◌≡◌, ◌≢◌, ℕ, ◌-◌, get_or, set, take, ◌<◌, ◌++◌, ◌∷◌, [], false, List, length, refl, rules, arith, subst, sym, ap, ◌∙◌, inr}
use Rattle.std.specs.Prelude.{Contains, Some, None, Ok, Err}
use Rattle.std.proofs.lemmas.List.{length_push}
use Rattle.std.proofs.lemmas.Bool.{both_ways}
use Rattle.cnf_form.specs.Cnf.{LitOf, ClauseWithin}
use Rattle.unit_propagation.specs.declared.watch.Head.{Head}
use Rattle.unit_propagation.specs.Propagation.{IsUnassigned, IsFalsifiedBut, Propagates, HasFalsified}
use Rattle.unit_propagation.specs.Propagator.{PropagatorOf, clauses_of, slot_at, IsAdded, Same}
use Rattle.unit_propagation.specs.Watch.{slots_of, rows_of}
use Rattle.unit_propagation.specs.Visit.{State, IsFiledBut, AllKept, SettleFits, IsKept}
use Rattle.unit_propagation.proofs.Stores.{length-slots}
use Rattle.unit_propagation.proofs.States.{settle_ok, filed_trail}
use Rattle.unit_propagation.proofs.Filing.{slots_last, filed_but}
use Rattle.unit_propagation.proofs.Learning.{settled, learnt, unlearnt, kept_less, ends_of_settle, learnt_grown}
use Rattle.unit_propagation.proofs.propagator.Propagator.add_propagating.Goals as goal

-- how propagation of the filed clause ended
settled_ok : (c : goal.After-self-1) → SettleFits (slots_of c.self.inside.store.lits.items c.self.inside.store.heads.items ++ Some c.args.clause.now ∷ []) (rows_of c.file_clause.new.pairs.vars c.file_clause.new.pairs.lists.items)
    (record { heads = c.self.inside.store.heads.items ++ c.in_ok-file_clause.ensures.heads.0 ∷ []; rows = rows_of c.file_clause.new.lists.vars c.file_clause.new.lists.lists.items; trail = c.self.inside.trail.lits ++ c.args.first ∷ [] })
    (record { heads = c.settle_unit.new.store.heads.items; rows = rows_of c.settle_unit.new.lists.vars c.settle_unit.new.lists.lists.items; trail = c.settle_unit.new.trail.lits }) c.self.inside.trail.lits (Ok c.in-Ok.falsified)
settled_ok c =
    let v = c.self.invariant.1 in
    let s : State = record { heads = c.self.inside.store.heads.items; rows = rows_of c.self.inside.lists.vars c.self.inside.lists.lists.items; trail = c.self.inside.trail.lits } in
    let slots = slots_of c.self.inside.store.lits.items c.self.inside.store.heads.items in
    let st = c.file_clause.new.store in
    let rows = rows_of c.file_clause.new.lists.vars c.file_clause.new.lists.lists.items in
    let pairs = rows_of c.file_clause.new.pairs.vars c.file_clause.new.pairs.lists.items in
    let e = c.in_ok-file_clause.ensures in
    let w = e.heads in
    let free : c.self.inside.conflict ≡ false = ap (λ (k : PropagatorOf). k.conflict) c.self.view_is ∙ c.requires.conflict in
    let kept = subst (λ (k : PropagatorOf). (h : Head) → h.left ≡ c.args.first → h.right ≡ c.args.second → IsKept k.trail (k.trail ++ c.args.first ∷ []) (Some c.args.clause.now) h) (sym c.self.view_is) c.requires.kept in
    let new : State = record { heads = c.settle_unit.new.store.heads.items; rows = rows_of c.settle_unit.new.lists.vars c.settle_unit.new.lists.lists.items; trail = c.settle_unit.new.trail.lits } in
    subst (SettleFits (slots ++ Some c.args.clause.now ∷ []) pairs (record { heads = s.heads ++ w.0 ∷ []; rows = rows; trail = s.trail ++ c.args.first ∷ [] }) new s.trail) c.in-Ok.is
    (settled _ _ s _ _ _ v c.args.clause.now w.0 c.args.first rows pairs (slots_of st.lits.items st.heads.items) st.heads.items new c.settle_unit.result free e.slots w.1 (e.filed s.trail v.filed) (kept w.0 w.2 w.3) c.settle_unit.ensures.step)

-- and where memory ran out
settled_err : (c : goal.After-remove_clause) → SettleFits (slots_of c.self.inside.store.lits.items c.self.inside.store.heads.items ++ Some c.args.clause.now ∷ []) (rows_of c.file_clause.new.pairs.vars c.file_clause.new.pairs.lists.items)
    (record { heads = c.self.inside.store.heads.items ++ c.in_ok-file_clause.ensures.heads.0 ∷ []; rows = rows_of c.file_clause.new.lists.vars c.file_clause.new.lists.lists.items; trail = c.self.inside.trail.lits ++ c.args.first ∷ [] })
    (record { heads = c.settle_unit.new.store.heads.items; rows = rows_of c.settle_unit.new.lists.vars c.settle_unit.new.lists.lists.items; trail = c.settle_unit.new.trail.lits }) c.self.inside.trail.lits (Err c.in-Err.e)
settled_err c =
    let v = c.self.invariant.1 in
    let s : State = record { heads = c.self.inside.store.heads.items; rows = rows_of c.self.inside.lists.vars c.self.inside.lists.lists.items; trail = c.self.inside.trail.lits } in
    let slots = slots_of c.self.inside.store.lits.items c.self.inside.store.heads.items in
    let st = c.file_clause.new.store in
    let rows = rows_of c.file_clause.new.lists.vars c.file_clause.new.lists.lists.items in
    let pairs = rows_of c.file_clause.new.pairs.vars c.file_clause.new.pairs.lists.items in
    let e = c.in_ok-file_clause.ensures in
    let w = e.heads in
    let free : c.self.inside.conflict ≡ false = ap (λ (k : PropagatorOf). k.conflict) c.self.view_is ∙ c.requires.conflict in
    let kept = subst (λ (k : PropagatorOf). (h : Head) → h.left ≡ c.args.first → h.right ≡ c.args.second → IsKept k.trail (k.trail ++ c.args.first ∷ []) (Some c.args.clause.now) h) (sym c.self.view_is) c.requires.kept in
    let new : State = record { heads = c.settle_unit.new.store.heads.items; rows = rows_of c.settle_unit.new.lists.vars c.settle_unit.new.lists.lists.items; trail = c.settle_unit.new.trail.lits } in
    subst (SettleFits (slots ++ Some c.args.clause.now ∷ []) pairs (record { heads = s.heads ++ w.0 ∷ []; rows = rows; trail = s.trail ++ c.args.first ∷ [] }) new s.trail) c.in-Err.is
    (settled _ _ s _ _ _ v c.args.clause.now w.0 c.args.first rows pairs (slots_of st.lits.items st.heads.items) st.heads.items new c.settle_unit.result free e.slots w.1 (e.filed s.trail v.filed) (kept w.0 w.2 w.3) c.settle_unit.ensures.step)

-- the place of the clause that is removed again
last_at : (c : goal.After-remove_clause) → length c.self.inside.store.heads.items ≡ c.len.result - 1
last_at c =
    let w = c.in_ok-file_clause.ensures.heads in
    let q : c.len.result ≡ length c.file_clause.new.store.heads.items = search rules in
    omega (arith, q, ap length w.1, length_push c.self.inside.store.heads.items w.0)

-- what is left of it
left_over : (c : goal.After-remove_clause) → slots_of c.remove_clause.new.store.lits.items c.remove_clause.new.store.heads.items ≡ slots_of c.self.inside.store.lits.items c.self.inside.store.heads.items ++ None ∷ []
left_over c =
    let sl = c.settle_unit.ensures.slots ∙ c.in_ok-file_clause.ensures.slots in
    let k = c.len.result - 1 in
    c.remove_clause.ensures.slots ∙ ap (λ z. set z k None) sl ∙ slots_last (slots_of c.self.inside.store.lits.items c.self.inside.store.heads.items) (Some c.args.clause.now) k (length-slots c.self.inside.store.lits.items c.self.inside.store.heads.items ∙ last_at c)

pub invariant_of-self : goal.invariant_of-self
invariant_of-self c =
    let a = c.self.invariant.0 in
    let v = c.self.invariant.1 in
    let s : State = record { heads = c.self.inside.store.heads.items; rows = rows_of c.self.inside.lists.vars c.self.inside.lists.lists.items; trail = c.self.inside.trail.lits } in
    let st = c.file_clause.new.store in
    let rows = rows_of c.file_clause.new.lists.vars c.file_clause.new.lists.lists.items in
    let pairs = rows_of c.file_clause.new.pairs.vars c.file_clause.new.pairs.lists.items in
    let e = c.in_err-file_clause.ensures in
    let s' : State = record { heads = st.heads.items; rows = rows; trail = s.trail } in (
      record { limit = a.limit; store_vars = e.store_vars ∙ a.store_vars; lists_vars = e.lists_vars ∙ a.lists_vars; pairs_vars = e.pairs_vars ∙ a.pairs_vars; trail_vars = a.trail_vars; lists_clauses = e.lists_clauses; pairs_clauses = e.pairs_clauses },
      unlearnt _ _ s _ _ _ v _ s' pairs refl (length-slots st.lits.items st.heads.items) e.err (e.filed s.trail v.filed) (λ b less. e.err_kept b b),
    )

pub invariant_of-self-in-Ok : goal.invariant_of-self-in-Ok
invariant_of-self-in-Ok c =
    let a = c.self.invariant.0 in
    let v = c.self.invariant.1 in
    let cl = c.args.clause.now in
    let vars = c.self.inside.vars in
    let limits = c.self.inside.limits.items in
    let s : State = record { heads = c.self.inside.store.heads.items; rows = rows_of c.self.inside.lists.vars c.self.inside.lists.lists.items; trail = c.self.inside.trail.lits } in
    let slots = slots_of c.self.inside.store.lits.items c.self.inside.store.heads.items in
    let rows = rows_of c.file_clause.new.lists.vars c.file_clause.new.lists.lists.items in
    let pairs = rows_of c.file_clause.new.pairs.vars c.file_clause.new.pairs.lists.items in
    let e = c.in_ok-file_clause.ensures in
    let w = e.heads in
    let new : State = record { heads = c.settle_unit.new.store.heads.items; rows = rows_of c.settle_unit.new.lists.vars c.settle_unit.new.lists.lists.items; trail = c.settle_unit.new.trail.lits } in
    let within : ClauseWithin vars cl = subst (λ (k : PropagatorOf). ClauseWithin k.vars cl) (sym c.self.view_is) c.requires.within in
    let op : IsUnassigned s.trail c.args.first = subst (λ (k : PropagatorOf). IsUnassigned k.trail c.args.first) (sym c.self.view_is) c.requires.opened in
    let levels = subst (λ (k : PropagatorOf). (n : ℕ) (h : Head) → Contains k.limits n → h.left ≡ c.args.first → h.right ≡ c.args.second → IsKept (take n k.trail) (take n k.trail) (Some cl) h) (sym c.self.view_is) c.requires.levels in
    let u = c.settle_unit.ensures in
    let r = settle_ok (slots ++ Some cl ∷ []) pairs _ new s.trail c.in-Ok.falsified (settled_ok c) in (
      record { limit = a.limit; store_vars = u.store_vars ∙ e.store_vars ∙ a.store_vars; lists_vars = u.lists_vars ∙ e.lists_vars ∙ a.lists_vars; pairs_vars = e.pairs_vars ∙ a.pairs_vars; trail_vars = u.trail ∙ a.trail_vars; lists_clauses = u.lists_clauses ∙ e.lists_clauses ∙ sym u.store_count; pairs_clauses = e.pairs_clauses ∙ sym u.store_count },
      rw (u.slots, e.slots) (learnt vars slots s _ limits _ v cl w.0 rows pairs c.args.first new c.is_some-self-inside.result within op
          (λ n k. levels n w.0 k w.2 w.3) r.0 (λ g. r.1 (sym c.is_some-self-inside.ensures ∙ g))),
    )

pub invariant_of-self-in-Err : goal.invariant_of-self-in-Err
invariant_of-self-in-Err c =
    let a = c.self.invariant.0 in
    let v = c.self.invariant.1 in
    let cl = c.args.clause.now in
    let s : State = record { heads = c.self.inside.store.heads.items; rows = rows_of c.self.inside.lists.vars c.self.inside.lists.lists.items; trail = c.self.inside.trail.lits } in
    let slots = slots_of c.self.inside.store.lits.items c.self.inside.store.heads.items in
    let pairs = rows_of c.file_clause.new.pairs.vars c.file_clause.new.pairs.lists.items in
    let e = c.in_ok-file_clause.ensures in
    let w = e.heads in
    let new : State = record { heads = c.settle_unit.new.store.heads.items; rows = rows_of c.settle_unit.new.lists.vars c.settle_unit.new.lists.lists.items; trail = c.settle_unit.new.trail.lits } in
    let u = c.settle_unit.ensures in
    let o = c.remove_clause.ensures in
    let fit = settled_err c in
    let k = c.len.result - 1 in
    let sl : slots_of c.settle_unit.new.store.lits.items c.settle_unit.new.store.heads.items ≡ slots ++ Some cl ∷ [] = u.slots ∙ e.slots in
    let slots' = slots_of c.remove_clause.new.store.lits.items c.remove_clause.new.store.heads.items in
    let s' : State = record { heads = c.remove_clause.new.store.heads.items; rows = new.rows; trail = s.trail } in
    let filed = o.filed new.rows s.trail (subst (λ z. IsFiledBut k z (record new { trail = s.trail }) pairs) (sym sl) (filed_but k (slots ++ Some cl ∷ []) (record new { trail = s.trail }) pairs (filed_trail (slots ++ Some cl ∷ []) new pairs s.trail fit.0))) in
    let kept : (b : List LitOf) → ((m : LitOf) → Contains b m → Contains s.trail m) → AllKept b b slots s.heads → AllKept b b slots' s'.heads = λ b less all.
    o.kept b b (subst (λ z. (j : ℕ) (d : Head) → j < length new.heads → j ≢ k → IsKept b b (slot_at z j) (get_or new.heads j d)) (sym sl) (kept_less _ slots s _ _ _ v cl w.0 new.heads b (u.store_count ∙ ap length w.1) all (λ j d g. fit.2 j d g b less) k (v.count ∙ last_at c))) in (
      record { limit = a.limit; store_vars = o.store_vars ∙ u.store_vars ∙ e.store_vars ∙ a.store_vars; lists_vars = u.lists_vars ∙ e.lists_vars ∙ a.lists_vars; pairs_vars = o.pairs_vars ∙ e.pairs_vars ∙ a.pairs_vars; trail_vars = u.trail ∙ a.trail_vars; lists_clauses = u.lists_clauses ∙ e.lists_clauses ∙ sym u.store_count ∙ sym o.store_count; pairs_clauses = o.pairs_clauses ∙ e.pairs_clauses ∙ sym u.store_count ∙ sym o.store_count },
      rw fit.1 (unlearnt _ slots s _ _ _ v _ s' _ refl (length-slots _ _) (inr (left_over c)) filed kept),
    )

pub returns-in-Ok-clause-ok : goal.returns-in-Ok-clause-ok
returns-in-Ok-clause-ok c =
    let cl = c.args.clause.now in
    let l = c.args.first in
    let s : State = record { heads = c.self.inside.store.heads.items; rows = rows_of c.self.inside.lists.vars c.self.inside.lists.lists.items; trail = c.self.inside.trail.lits } in
    let slots = slots_of c.self.inside.store.lits.items c.self.inside.store.heads.items in
    let pairs = rows_of c.file_clause.new.pairs.vars c.file_clause.new.pairs.lists.items in
    let new : State = record { heads = c.settle_unit.new.store.heads.items; rows = rows_of c.settle_unit.new.lists.vars c.settle_unit.new.lists.lists.items; trail = c.settle_unit.new.trail.lits } in
    let free : c.self.inside.conflict ≡ false = ap (λ (k : PropagatorOf). k.conflict) c.self.view_is ∙ c.requires.conflict in
    let op : IsUnassigned s.trail l = subst (λ (k : PropagatorOf). IsUnassigned k.trail l) (sym c.self.view_is) c.requires.opened in
    let unit : IsFalsifiedBut s.trail cl l = subst (λ (k : PropagatorOf). IsFalsifiedBut k.trail cl l) (sym c.self.view_is) c.requires.unit in
    let sl : slots_of c.settle_unit.new.store.lits.items c.settle_unit.new.store.heads.items ≡ slots ++ Some cl ∷ [] = c.settle_unit.ensures.slots ∙ c.in_ok-file_clause.ensures.slots in
    let r = settle_ok (slots ++ Some cl ∷ []) pairs _ new s.trail c.in-Ok.falsified (settled_ok c) in
    let g = r.0 in
    let after : PropagatorOf = record { vars = c.self.inside.vars; slots = slots_of c.settle_unit.new.store.lits.items c.settle_unit.new.store.heads.items; trail = new.trail; limits = c.self.inside.limits.items; conflict = c.is_some-self-inside.result } in
    subst (λ (k : PropagatorOf). IsAdded k cl after) c.self.view_is (record {
      vars = refl;
      slots = sl;
      limits = refl;
      after = λ t. absurd (both_ways _ free t);
      propagated = λ t. subst (λ z. Propagates (clauses_of z) s.trail new.trail) (sym sl) (learnt_grown slots s cl l c.requires.first unit op new.trail g.grown);
      falsified = λ t q. subst (λ z. HasFalsified new.trail (clauses_of z)) (sym sl) (r.2 (sym c.is_some-self-inside.ensures ∙ q));
    })

pub returns-in-Ok-clause-ends : goal.returns-in-Ok-clause-ends
returns-in-Ok-clause-ends c =
    let sl = c.settle_unit.ensures.slots ∙ c.in_ok-file_clause.ensures.slots in
    let after : PropagatorOf = record { vars = c.self.inside.vars; slots = slots_of c.settle_unit.new.store.lits.items c.settle_unit.new.store.heads.items; trail = c.settle_unit.new.trail.lits; limits = c.self.inside.limits.items; conflict = c.is_some-self-inside.result } in
    ends_of_settle after _ _ _ _ c.self.inside.trail.lits c.in-Ok.falsified sl refl c.is_some-self-inside.ensures (settled_ok c)

pub returns-in-Err-clause-err : goal.returns-in-Err-clause-err
returns-in-Err-clause-err c =
    let slots' = slots_of c.remove_clause.new.store.lits.items c.remove_clause.new.store.heads.items in
    let view : List LitOf → PropagatorOf = λ t. record { vars = c.self.inside.vars; slots = slots'; trail = t; limits = c.self.inside.limits.items; conflict = c.self.inside.conflict } in
    let fit = settled_err c in (
      subst (λ (z : PropagatorOf). Same z.slots slots') c.self.view_is (inr (left_over c)),
      subst (λ (z : PropagatorOf). view c.settle_unit.new.trail.lits ≡ record z { slots = slots' }) c.self.view_is (ap view fit.1),
    )
