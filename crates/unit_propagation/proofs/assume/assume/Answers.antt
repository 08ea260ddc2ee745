use Rattle.std.proofs.Common.{ℕ, take, subst, ap, ◌∙◌, rules}
use Rattle.std.specs.Prelude.{Ok, Option, Result}
use Rattle.std.proofs.lemmas.Result.{err_from_is_err_and}
use Rattle.std.specs.declared.alloc.AllocError.{AllocError}
use Rattle.unit_propagation.specs.Watch.{slots_of, rows_of}
use Rattle.unit_propagation.specs.Visit.{State, SettleFits}
use Rattle.unit_propagation.proofs.Assumptions.{filed_assumed, kept_assumed, room_assumed, complete_after, falsified_after, wanting_after}
use Rattle.unit_propagation.proofs.assume.assume.Goals as goal

pub returns-in_err-propagate_from-clause-step : goal.returns-in_err-propagate_from-clause-step
returns-in_err-propagate_from-clause-step c = λ filed kept.
    let slots = slots_of c.args.store.now.lits.items c.args.store.now.heads.items in
    let pairs = rows_of c.args.pairs.now.vars c.args.pairs.now.lists.items in
    let old : State = record { heads = c.args.store.now.heads.items; rows = rows_of c.args.lists.now.vars c.args.lists.now.lists.items; trail = c.args.trail.now.lits } in
    let new : State = record { heads = c.propagate_from.new.store.heads.items; rows = rows_of c.propagate_from.new.lists.vars c.propagate_from.new.lists.lists.items; trail = c.propagate_from.new.trail.lits } in
    let t = c.assume_all.new.trail.lits in
    let b = c.len-base.result in
    let l = c.len-base.ensures in
    let a = c.assume_all.ensures in
    let e = c.propagate_from.ensures in
    let f = e.step (room_assumed slots pairs old new c.args.lits.now t b l.length a.assumes filed kept) (filed_assumed slots pairs old new c.args.lits.now t b l.length a.assumes filed kept) (kept_assumed slots pairs old new c.args.lits.now t b l.length a.assumes filed kept) in
    let g = subst (SettleFits slots pairs (record old { trail = t }) new (take b t)) c.in_err-propagate_from.was f in
    let q = err_from_is_err_and c.from_residual.result c.from_residual.ensures.1 in
    rw q.1 (wanting_after slots pairs old new c.args.lits.now t b l.length a.assumes filed kept _ _ g)

pub returns-in-None-clause-step : goal.returns-in-None-clause-step
returns-in-None-clause-step c = λ filed kept.
    let slots = slots_of c.args.store.now.lits.items c.args.store.now.heads.items in
    let pairs = rows_of c.args.pairs.now.vars c.args.pairs.now.lists.items in
    let old : State = record { heads = c.args.store.now.heads.items; rows = rows_of c.args.lists.now.vars c.args.lists.now.lists.items; trail = c.args.trail.now.lits } in
    let new : State = record { heads = c.propagate_from.new.store.heads.items; rows = rows_of c.propagate_from.new.lists.vars c.propagate_from.new.lists.lists.items; trail = c.propagate_from.new.trail.lits } in
    let t = c.assume_all.new.trail.lits in
    let b = c.len-base.result in
    let l = c.len-base.ensures in
    let a = c.assume_all.ensures in
    let e = c.propagate_from.ensures in
    let f = e.step (room_assumed slots pairs old new c.args.lits.now t b l.length a.assumes filed kept) (filed_assumed slots pairs old new c.args.lits.now t b l.length a.assumes filed kept) (kept_assumed slots pairs old new c.args.lits.now t b l.length a.assumes filed kept) in
    let g = subst (SettleFits slots pairs (record old { trail = t }) new (take b t)) (c.in_ok-propagate_from.was ∙ ap (λ (o : Option ℕ). let r : Result (Option ℕ) AllocError = Ok o in r) c.in-None.is) f in
    complete_after slots pairs old new c.args.lits.now t b l.length a.assumes filed kept g (a.yes (search rules))

pub returns-in-Some-clause-step : goal.returns-in-Some-clause-step
returns-in-Some-clause-step c = λ filed kept.
    let slots = slots_of c.args.store.now.lits.items c.args.store.now.heads.items in
    let pairs = rows_of c.args.pairs.now.vars c.args.pairs.now.lists.items in
    let old : State = record { heads = c.args.store.now.heads.items; rows = rows_of c.args.lists.now.vars c.args.lists.now.lists.items; trail = c.args.trail.now.lits } in
    let new : State = record { heads = c.propagate_from.new.store.heads.items; rows = rows_of c.propagate_from.new.lists.vars c.propagate_from.new.lists.lists.items; trail = c.propagate_from.new.trail.lits } in
    let t = c.assume_all.new.trail.lits in
    let b = c.len-base.result in
    let l = c.len-base.ensures in
    let a = c.assume_all.ensures in
    let e = c.propagate_from.ensures in
    let f = e.step (room_assumed slots pairs old new c.args.lits.now t b l.length a.assumes filed kept) (filed_assumed slots pairs old new c.args.lits.now t b l.length a.assumes filed kept) (kept_assumed slots pairs old new c.args.lits.now t b l.length a.assumes filed kept) in
    let g = subst (SettleFits slots pairs (record old { trail = t }) new (take b t)) (c.in_ok-propagate_from.was ∙ ap (λ (o : Option ℕ). let r : Result (Option ℕ) AllocError = Ok o in r) c.in-Some.is) f in
    falsified_after slots pairs old new c.args.lits.now t b l.length a.assumes filed kept c.in-Some.k g
