use Rattle.std.proofs.Common.{◌≡◌, ◌++◌, ◌∷◌, [], false, length, take, refl, rules, subst, sym, ap, ◌∙◌}
use Rattle.std.specs.Prelude.{Ok, Err}
use Rattle.std.proofs.lemmas.List.{take_at}
use Rattle.unit_propagation.specs.Propagation.{IsUnassigned}
use Rattle.unit_propagation.specs.Propagator.{PropagatorOf, IsDecided}
use Rattle.unit_propagation.specs.Watch.{slots_of, rows_of}
use Rattle.unit_propagation.specs.Visit.{State, SettleFits}
use Rattle.unit_propagation.proofs.States.{settle_ok}
use Rattle.unit_propagation.proofs.Levels.{opened, unopened}
use Rattle.unit_propagation.proofs.Learning.{decided, kept_before, ends_of_settle}
use Rattle.unit_propagation.proofs.propagator.Propagator.decide.Goals as goal

-- the level that is opened
limit_added : (c : goal.After-self-1) → c.push.new.self.items ≡ c.self.inside.limits.items ++ length c.self.inside.trail.lits ∷ []
limit_added c = c.in_ok-push.ensures.items ∙ ap (λ z. c.self.inside.limits.items ++ z ∷ []) c.len-base.ensures.length

-- and that is taken back where memory ran out
limit_removed : (c : goal.After-truncate) → c.truncate.new.self.items ≡ c.self.inside.limits.items
limit_removed c = c.truncate.ensures.items ∙ ap (take c.len-level.result) c.in_ok-push.ensures.items ∙ take_at c.self.inside.limits.items _ c.len-level.result (search rules)

-- how propagation ended
settled_ok : (c : goal.After-self-1) → SettleFits (slots_of c.self.inside.store.lits.items c.self.inside.store.heads.items) (rows_of c.self.inside.pairs.vars c.self.inside.pairs.lists.items)
    (record { heads = c.self.inside.store.heads.items; rows = rows_of c.self.inside.lists.vars c.self.inside.lists.lists.items; trail = c.self.inside.trail.lits ++ c.args.l ∷ [] })
    (record { heads = c.settle_unit.new.store.heads.items; rows = rows_of c.settle_unit.new.lists.vars c.settle_unit.new.lists.lists.items; trail = c.settle_unit.new.trail.lits }) c.self.inside.trail.lits (Ok c.in-Ok.falsified)
settled_ok c =
    let v = c.self.invariant.1 in
    let s : State = record { heads = c.self.inside.store.heads.items; rows = rows_of c.self.inside.lists.vars c.self.inside.lists.lists.items; trail = c.self.inside.trail.lits } in
    let slots = slots_of c.self.inside.store.lits.items c.self.inside.store.heads.items in
    let pairs = rows_of c.self.inside.pairs.vars c.self.inside.pairs.lists.items in
    let new : State = record { heads = c.settle_unit.new.store.heads.items; rows = rows_of c.settle_unit.new.lists.vars c.settle_unit.new.lists.lists.items; trail = c.settle_unit.new.trail.lits } in
    let free : c.self.inside.conflict ≡ false = ap (λ (k : PropagatorOf). k.conflict) c.self.view_is ∙ c.requires.conflict in
    subst (SettleFits slots pairs (record s { trail = s.trail ++ c.args.l ∷ [] }) new s.trail) c.in-Ok.is (c.settle_unit.ensures.step v.filed (kept_before slots s c.args.l (v.now free)))

-- and where memory ran out
settled_err : (c : goal.After-truncate) → SettleFits (slots_of c.self.inside.store.lits.items c.self.inside.store.heads.items) (rows_of c.self.inside.pairs.vars c.self.inside.pairs.lists.items)
    (record { heads = c.self.inside.store.heads.items; rows = rows_of c.self.inside.lists.vars c.self.inside.lists.lists.items; trail = c.self.inside.trail.lits ++ c.args.l ∷ [] })
    (record { heads = c.settle_unit.new.store.heads.items; rows = rows_of c.settle_unit.new.lists.vars c.settle_unit.new.lists.lists.items; trail = c.settle_unit.new.trail.lits }) c.self.inside.trail.lits (Err c.in-Err.e)
settled_err c =
    let v = c.self.invariant.1 in
    let s : State = record { heads = c.self.inside.store.heads.items; rows = rows_of c.self.inside.lists.vars c.self.inside.lists.lists.items; trail = c.self.inside.trail.lits } in
    let slots = slots_of c.self.inside.store.lits.items c.self.inside.store.heads.items in
    let pairs = rows_of c.self.inside.pairs.vars c.self.inside.pairs.lists.items in
    let new : State = record { heads = c.settle_unit.new.store.heads.items; rows = rows_of c.settle_unit.new.lists.vars c.settle_unit.new.lists.lists.items; trail = c.settle_unit.new.trail.lits } in
    let free : c.self.inside.conflict ≡ false = ap (λ (k : PropagatorOf). k.conflict) c.self.view_is ∙ c.requires.conflict in
    subst (SettleFits slots pairs (record s { trail = s.trail ++ c.args.l ∷ [] }) new s.trail) c.in-Err.is (c.settle_unit.ensures.step v.filed (kept_before slots s c.args.l (v.now free)))

pub invariant_of-self-in-Ok : goal.invariant_of-self-in-Ok
invariant_of-self-in-Ok c =
    let a = c.self.invariant.0 in
    let v = c.self.invariant.1 in
    let l = c.args.l in
    let s : State = record { heads = c.self.inside.store.heads.items; rows = rows_of c.self.inside.lists.vars c.self.inside.lists.lists.items; trail = c.self.inside.trail.lits } in
    let slots = slots_of c.self.inside.store.lits.items c.self.inside.store.heads.items in
    let pairs = rows_of c.self.inside.pairs.vars c.self.inside.pairs.lists.items in
    let new : State = record { heads = c.settle_unit.new.store.heads.items; rows = rows_of c.settle_unit.new.lists.vars c.settle_unit.new.lists.lists.items; trail = c.settle_unit.new.trail.lits } in
    let free : c.self.inside.conflict ≡ false = ap (λ (k : PropagatorOf). k.conflict) c.self.view_is ∙ c.requires.conflict in
    let op : IsUnassigned s.trail l = subst (λ (k : PropagatorOf). IsUnassigned k.trail l) (sym c.self.view_is) c.requires.opened in
    let e = c.settle_unit.ensures in
    let r = settle_ok slots pairs (record s { trail = s.trail ++ l ∷ [] }) new s.trail c.in-Ok.falsified (settled_ok c) in (
      record { limit = a.limit; store_vars = e.store_vars ∙ a.store_vars; lists_vars = e.lists_vars ∙ a.lists_vars; pairs_vars = a.pairs_vars; trail_vars = e.trail ∙ a.trail_vars; lists_clauses = e.lists_clauses ∙ a.lists_clauses ∙ sym e.store_count; pairs_clauses = a.pairs_clauses ∙ sym e.store_count },
      rw (e.slots, limit_added c) (opened c.self.inside.vars slots s pairs c.self.inside.limits.items c.self.inside.conflict v new (l ∷ []) c.is_some-self-inside.result free (decided slots pairs s new l op r.0) (λ g. r.1 (sym c.is_some-self-inside.ensures ∙ g))),
    )

pub invariant_of-self-in-Err : goal.invariant_of-self-in-Err
invariant_of-self-in-Err c =
    let a = c.self.invariant.0 in
    let v = c.self.invariant.1 in
    let s : State = record { heads = c.self.inside.store.heads.items; rows = rows_of c.self.inside.lists.vars c.self.inside.lists.lists.items; trail = c.self.inside.trail.lits } in
    let slots = slots_of c.self.inside.store.lits.items c.self.inside.store.heads.items in
    let pairs = rows_of c.self.inside.pairs.vars c.self.inside.pairs.lists.items in
    let new : State = record { heads = c.settle_unit.new.store.heads.items; rows = rows_of c.settle_unit.new.lists.vars c.settle_unit.new.lists.lists.items; trail = c.settle_unit.new.trail.lits } in
    let e = c.settle_unit.ensures in
    let fit = settled_err c in (
      record { limit = a.limit; store_vars = e.store_vars ∙ a.store_vars; lists_vars = e.lists_vars ∙ a.lists_vars; pairs_vars = a.pairs_vars; trail_vars = e.trail ∙ a.trail_vars; lists_clauses = e.lists_clauses ∙ a.lists_clauses ∙ sym e.store_count; pairs_clauses = a.pairs_clauses ∙ sym e.store_count },
      rw (e.slots, limit_removed c) (unopened c.self.inside.vars slots s pairs c.self.inside.limits.items c.self.inside.conflict v new e.store_count fit.0 fit.1 fit.2),
    )

pub returns-in-Ok-clause-decided : goal.returns-in-Ok-clause-decided
returns-in-Ok-clause-decided c =
    let after : PropagatorOf = record { vars = c.self.inside.vars; slots = slots_of c.settle_unit.new.store.lits.items c.settle_unit.new.store.heads.items; trail = c.settle_unit.new.trail.lits; limits = c.push.new.self.items; conflict = c.is_some-self-inside.result } in
    let r = settle_ok _ _ _ _ c.self.inside.trail.lits c.in-Ok.falsified (settled_ok c) in
    let w = r.0 in
    subst (λ (k : PropagatorOf). IsDecided k c.args.l after) c.self.view_is (record { vars = refl; slots = c.settle_unit.ensures.slots; limits = limit_added c; propagated = w.grown })

pub returns-in-Ok-clause-ends : goal.returns-in-Ok-clause-ends
returns-in-Ok-clause-ends c =
    let after : PropagatorOf = record { vars = c.self.inside.vars; slots = slots_of c.settle_unit.new.store.lits.items c.settle_unit.new.store.heads.items; trail = c.settle_unit.new.trail.lits; limits = c.push.new.self.items; conflict = c.is_some-self-inside.result } in
    ends_of_settle after _ _ _ _ c.self.inside.trail.lits c.in-Ok.falsified c.settle_unit.ensures.slots refl c.is_some-self-inside.ensures (settled_ok c)

pub returns-in-Err-clause-err : goal.returns-in-Err-clause-err
returns-in-Err-clause-err c = let fit = settled_err c in rw (c.settle_unit.ensures.slots, limit_removed c, fit.1) c.self.view_is
