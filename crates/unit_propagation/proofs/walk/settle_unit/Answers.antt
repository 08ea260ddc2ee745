use Rattle.std.proofs.Common.{◌≡◌, ◌≤◌, ◌++◌, ◌∷◌, [], List, length, take, rules, arith, subst, ap}
use Rattle.std.proofs.lemmas.List.{take_at, length_push}
use Rattle.cnf_form.specs.Cnf.{LitOf}
use Rattle.unit_propagation.specs.Marks.{TrailOf}
use Rattle.unit_propagation.specs.Watch.{slots_of, rows_of}
use Rattle.unit_propagation.specs.Visit.{State, AllKept, IsFiled, SettleFits}
use Rattle.unit_propagation.proofs.States.{filed_trail}
use Rattle.unit_propagation.proofs.walk.settle_unit.Goals as goal

pub returns-clause-step : goal.returns-clause-step
returns-clause-step c = λ filed kept.
    let slots = slots_of c.args.store.now.lits.items c.args.store.now.heads.items in
    let pairs = rows_of c.args.pairs.now.vars c.args.pairs.now.lists.items in
    let t : List LitOf = c.args.trail.now.lits in
    let t' : List LitOf = t ++ c.args.l ∷ [] in
    let old : State = record { heads = c.args.store.now.heads.items; rows = rows_of c.args.lists.now.vars c.args.lists.now.lists.items; trail = t } in
    let new : State = record { heads = c.propagate_from.new.store.heads.items; rows = rows_of c.propagate_from.new.lists.vars c.propagate_from.new.lists.lists.items; trail = c.propagate_from.new.trail.lits } in
    let a = c.in_ok-assign.ensures in
    let lits : c.assign.new.self.lits ≡ t' = ap (λ (z : TrailOf). z.lits) a.ok in
    let e = c.propagate_from.ensures in
    let base : take c.len-base.result t' ≡ t = take_at t (c.args.l ∷ []) c.len-base.result (search rules) in
    let step = subst (λ z. c.len-base.result ≤ length z → IsFiled slots (record old { trail = z }) pairs → AllKept (take c.len-base.result z) z slots old.heads → SettleFits slots pairs (record old { trail = z }) new (take c.len-base.result z) c.propagate_from.result) lits e.step in
    let step' = subst (λ z. c.len-base.result ≤ length t' → IsFiled slots (record old { trail = t' }) pairs → AllKept z t' slots old.heads → SettleFits slots pairs (record old { trail = t' }) new z c.propagate_from.result) base step in
    step' (let h : c.len-base.result ≡ length t = search rules in omega (arith, h, length_push t c.args.l)) (filed_trail slots old pairs t' filed) kept
