use Rattle.std.proofs.Common.{◌≡◌, ◌++◌, ◌∷◌, [], false, length, take, rules, subst, sym, ap, ◌∙◌}
use Rattle.std.specs.Prelude.{Ok, Err}
use Rattle.std.proofs.lemmas.List.{take_at}
use Rattle.unit_propagation.specs.Propagator.{PropagatorOf}
use Rattle.unit_propagation.specs.Watch.{slots_of, rows_of}
use Rattle.unit_propagation.specs.Visit.{State}
use Rattle.unit_propagation.specs.Assumption.{AssumeFits}
use Rattle.unit_propagation.proofs.Levels.{opened, unopened, walks_of, kept_of}
use Rattle.unit_propagation.proofs.propagator.Propagator.assume.Goals as goal

-- the level that is opened
limit_added : (c : goal.After-self-1) → c.push.new.self.items ≡ c.self.inside.limits.items ++ length c.self.inside.trail.lits ∷ []
limit_added c = c.in_ok-push.ensures.items ∙ ap (λ z. c.self.inside.limits.items ++ z ∷ []) c.len-base.ensures.length

-- and that is taken back where memory ran out
limit_removed : (c : goal.After-truncate) → c.truncate.new.self.items ≡ c.self.inside.limits.items
limit_removed c = c.truncate.ensures.items ∙ ap (take c.len-level.result) c.in_ok-push.ensures.items ∙ take_at c.self.inside.limits.items _ c.len-level.result (search rules)

-- how assuming ended
assumed_ok : (c : goal.After-self-1) → AssumeFits (slots_of c.self.inside.store.lits.items c.self.inside.store.heads.items) (rows_of c.self.inside.pairs.vars c.self.inside.pairs.lists.items) (record { heads = c.self.inside.store.heads.items; rows = rows_of c.self.inside.lists.vars c.self.inside.lists.lists.items; trail = c.self.inside.trail.lits })
    (record { heads = c.assume.new.store.heads.items; rows = rows_of c.assume.new.lists.vars c.assume.new.lists.lists.items; trail = c.assume.new.trail.lits }) c.args.lits.now (Ok c.in-Ok.outcome)
assumed_ok c =
    let v = c.self.invariant.1 in
    let s : State = record { heads = c.self.inside.store.heads.items; rows = rows_of c.self.inside.lists.vars c.self.inside.lists.lists.items; trail = c.self.inside.trail.lits } in
    let slots = slots_of c.self.inside.store.lits.items c.self.inside.store.heads.items in
    let pairs = rows_of c.self.inside.pairs.vars c.self.inside.pairs.lists.items in
    let new : State = record { heads = c.assume.new.store.heads.items; rows = rows_of c.assume.new.lists.vars c.assume.new.lists.lists.items; trail = c.assume.new.trail.lits } in
    let free : c.self.inside.conflict ≡ false = ap (λ (k : PropagatorOf). k.conflict) c.self.view_is ∙ c.requires.conflict in
    subst (AssumeFits slots pairs s new c.args.lits.now) c.in-Ok.is (c.assume.ensures.step v.filed (v.now free))

-- and where memory ran out
assumed_err : (c : goal.After-truncate) → AssumeFits (slots_of c.self.inside.store.lits.items c.self.inside.store.heads.items) (rows_of c.self.inside.pairs.vars c.self.inside.pairs.lists.items) (record { heads = c.self.inside.store.heads.items; rows = rows_of c.self.inside.lists.vars c.self.inside.lists.lists.items; trail = c.self.inside.trail.lits })
    (record { heads = c.assume.new.store.heads.items; rows = rows_of c.assume.new.lists.vars c.assume.new.lists.lists.items; trail = c.assume.new.trail.lits }) c.args.lits.now (Err c.in-Err.e)
assumed_err c =
    let v = c.self.invariant.1 in
    let s : State = record { heads = c.self.inside.store.heads.items; rows = rows_of c.self.inside.lists.vars c.self.inside.lists.lists.items; trail = c.self.inside.trail.lits } in
    let slots = slots_of c.self.inside.store.lits.items c.self.inside.store.heads.items in
    let pairs = rows_of c.self.inside.pairs.vars c.self.inside.pairs.lists.items in
    let new : State = record { heads = c.assume.new.store.heads.items; rows = rows_of c.assume.new.lists.vars c.assume.new.lists.lists.items; trail = c.assume.new.trail.lits } in
    let free : c.self.inside.conflict ≡ false = ap (λ (k : PropagatorOf). k.conflict) c.self.view_is ∙ c.requires.conflict in
    subst (AssumeFits slots pairs s new c.args.lits.now) c.in-Err.is (c.assume.ensures.step v.filed (v.now free))

pub invariant_of-self-in-Ok : goal.invariant_of-self-in-Ok
invariant_of-self-in-Ok c =
    let a = c.self.invariant.0 in
    let v = c.self.invariant.1 in
    let s : State = record { heads = c.self.inside.store.heads.items; rows = rows_of c.self.inside.lists.vars c.self.inside.lists.lists.items; trail = c.self.inside.trail.lits } in
    let slots = slots_of c.self.inside.store.lits.items c.self.inside.store.heads.items in
    let pairs = rows_of c.self.inside.pairs.vars c.self.inside.pairs.lists.items in
    let new : State = record { heads = c.assume.new.store.heads.items; rows = rows_of c.assume.new.lists.vars c.assume.new.lists.lists.items; trail = c.assume.new.trail.lits } in
    let free : c.self.inside.conflict ≡ false = ap (λ (k : PropagatorOf). k.conflict) c.self.view_is ∙ c.requires.conflict in
    let e = c.assume.ensures in
    let fit = assumed_ok c in (
      record { limit = a.limit; store_vars = e.store_vars ∙ a.store_vars; lists_vars = e.lists_vars ∙ a.lists_vars; pairs_vars = a.pairs_vars; trail_vars = e.trail ∙ a.trail_vars; lists_clauses = e.lists_clauses ∙ a.lists_clauses ∙ sym e.store_count; pairs_clauses = a.pairs_clauses ∙ sym e.store_count },
      rw (e.slots, limit_added c) (opened c.self.inside.vars slots s pairs c.self.inside.limits.items c.self.inside.conflict v new c.args.lits.now _ free (walks_of slots pairs s new c.args.lits.now c.in-Ok.outcome fit) (kept_of slots pairs s new c.args.lits.now c.in-Ok.outcome _ c.is_conflict-self-inside.ensures fit)),
    )

pub invariant_of-self-in-Err : goal.invariant_of-self-in-Err
invariant_of-self-in-Err c =
    let a = c.self.invariant.0 in
    let v = c.self.invariant.1 in
    let s : State = record { heads = c.self.inside.store.heads.items; rows = rows_of c.self.inside.lists.vars c.self.inside.lists.lists.items; trail = c.self.inside.trail.lits } in
    let slots = slots_of c.self.inside.store.lits.items c.self.inside.store.heads.items in
    let pairs = rows_of c.self.inside.pairs.vars c.self.inside.pairs.lists.items in
    let new : State = record { heads = c.assume.new.store.heads.items; rows = rows_of c.assume.new.lists.vars c.assume.new.lists.lists.items; trail = c.assume.new.trail.lits } in
    let e = c.assume.ensures in
    let fit = assumed_err c in (
      record { limit = a.limit; store_vars = e.store_vars ∙ a.store_vars; lists_vars = e.lists_vars ∙ a.lists_vars; pairs_vars = a.pairs_vars; trail_vars = e.trail ∙ a.trail_vars; lists_clauses = e.lists_clauses ∙ a.lists_clauses ∙ sym e.store_count; pairs_clauses = a.pairs_clauses ∙ sym e.store_count },
      rw (e.slots, limit_removed c) (unopened c.self.inside.vars slots s pairs c.self.inside.limits.items c.self.inside.conflict v new e.store_count fit.0 fit.1 fit.2),
    )

pub returns-in-Err-clause-err : goal.returns-in-Err-clause-err
returns-in-Err-clause-err c = let fit = assumed_err c in rw (c.assume.ensures.slots, limit_removed c, fit.1) c.self.view_is
