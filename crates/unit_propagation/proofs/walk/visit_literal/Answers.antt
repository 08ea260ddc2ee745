use Rattle.std.proofs.Common.{rules}
use Rattle.std.proofs.lemmas.List.Elements.{Contains-push}
use Rattle.cnf_form.specs.Cnf.{negate}
use Rattle.unit_propagation.specs.Watch.{slots_of, rows_of, row}
use Rattle.unit_propagation.specs.Propagator.{clauses_of}
use Rattle.unit_propagation.specs.Visit.{State}
use Rattle.unit_propagation.proofs.Visits.{propagates_grows}
use Rattle.unit_propagation.proofs.Walks.{walks_grown, walks_trans, kept_all_grown, end_from_pairs, pairs_none}
use Rattle.unit_propagation.proofs.walk.visit_literal.Goals as goal

pub returns-then-is_some-clause-step : goal.returns-then-is_some-clause-step
returns-then-is_some-clause-step c = λ p filed kept dealt.
    let f = c.args.falsified in
    let slots = slots_of c.args.store.now.lits.items c.args.store.now.heads.items in
    let s : State = record { heads = c.args.store.now.heads.items; rows = rows_of c.args.lists.now.vars c.args.lists.now.lists.items; trail = c.args.trail.now.lits } in
    let v = c.visit_pairs-stop.ensures in
    let x = v.step (filed.pair_entries f) (dealt (negate f) (Contains-push p (negate f))) in (
      walks_grown slots (rows_of c.args.pairs.now.vars c.args.pairs.now.lists.items) s c.visit_pairs-stop.new.trail.lits filed x.0,
      end_from_pairs _ slots (record s { trail = c.visit_pairs-stop.new.trail.lits }) _ c.visit_pairs-stop.result (search rules) x.1,
    )

pub returns-clause-step : goal.returns-clause-step
returns-clause-step c = λ p filed kept dealt.
    let f = c.args.falsified in
    let slots = slots_of c.args.store.now.lits.items c.args.store.now.heads.items in
    let pairs = rows_of c.args.pairs.now.vars c.args.pairs.now.lists.items in
    let s : State = record { heads = c.args.store.now.heads.items; rows = rows_of c.args.lists.now.vars c.args.lists.now.lists.items; trail = c.args.trail.now.lits } in
    let t = c.visit_pairs-stop.new.trail.lits in
    let mid : State = record s { trail = t } in
    let v = c.visit_pairs-stop.ensures in
    let x = v.step (filed.pair_entries f) (dealt (negate f) (Contains-push p (negate f))) in
    let w = walks_grown slots pairs s t filed x.0 in
    let grows = propagates_grows (clauses_of slots) s.trail t x.0 in
    let e = c.visit_long.ensures in
    let y = e.step p pairs w.filed (kept_all_grown p s.trail t slots s.heads grows kept) (λ l h. grows l (dealt l h))
    (pairs_none slots (row pairs f) t c.visit_pairs-stop.result (search rules) x.1) in
    (walks_trans slots pairs s mid _ w y.0, y.1)
