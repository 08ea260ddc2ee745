use Rattle.std.proofs.Common.{◌≡◌, ◌+◌, ◌<◌, ◌++◌, ◌∷◌, [], length, take, rules, subst, ◌∙◌}
use Rattle.std.proofs.lemmas.List.{take_all}
use Rattle.std.specs.Prelude.{Contains}
use Rattle.cnf_form.specs.Cnf.{LitOf, negate}
use Rattle.unit_propagation.specs.Watch.{slots_of, rows_of}
use Rattle.unit_propagation.specs.Propagation.{Propagates}
use Rattle.unit_propagation.specs.Propagator.{clauses_of}
use Rattle.unit_propagation.specs.Visit.{State, AllKept, IsFiled, Walks, EndFits}
use Rattle.unit_propagation.proofs.Walks.{walks_trans, dealt_next, take_next, end_some, end_none}
use Rattle.unit_propagation.proofs.walk.propagate.Goals as goal

pub returns-then-is_some-clause-step : goal.returns-then-is_some-clause-step
returns-then-is_some-clause-step c = λ filed kept.
    let i = c.loop-head.invariant in
    let slots = slots_of c.args.store.now.lits.items c.args.store.now.heads.items in
    let pairs = rows_of c.args.pairs.now.vars c.args.pairs.now.lists.items in
    let old : State = record { heads = c.args.store.now.heads.items; rows = rows_of c.args.lists.now.vars c.args.lists.now.lists.items; trail = c.args.trail.now.lits } in
    let mid : State = record { heads = c.loop-head.store.heads.items; rows = rows_of c.loop-head.lists.vars c.loop-head.lists.lists.items; trail = c.loop-head.trail.lits } in
    let new : State = record { heads = c.visit_literal-stop.new.store.heads.items; rows = rows_of c.visit_literal-stop.new.lists.vars c.visit_literal-stop.new.lists.lists.items; trail = c.visit_literal-stop.new.trail.lits } in
    let e = c.visit_literal-stop.ensures in
    let l = c.get.ensures in
    let p = take c.loop-head.head c.loop-head.trail.lits in
    let f = c.negate-falsified.result in
    let at : c.loop-head.head < length c.loop-head.trail.lits = search rules in
    let dealt : (m : LitOf) → Contains (p ++ negate f ∷ []) m → Contains mid.trail m = rw c.negate-falsified.ensures (dealt_next c.loop-head.trail.lits c.loop-head.head c.get.result at l.lit) in
    let x = i.step filed kept in
    let w : Walks slots pairs old mid = x.0 in
    let y = subst (λ z. IsFiled z mid pairs → AllKept p mid.trail z mid.heads → ((m : LitOf) → Contains (p ++ negate f ∷ []) m → Contains mid.trail m)
    → Walks z pairs mid new × EndFits (p ++ negate f ∷ []) z new c.visit_literal-stop.result) i.slots (e.step p) w.filed x.1 dealt in
    (walks_trans slots pairs old mid new w y.0, end_some _ new.trail slots new c.visit_literal-stop.result (search rules) y.1)

pub loop-head-preserved : goal.loop-head-preserved
loop-head-preserved c =
    let i = c.loop-head.invariant in
    let slots = slots_of c.args.store.now.lits.items c.args.store.now.heads.items in
    let pairs = rows_of c.args.pairs.now.vars c.args.pairs.now.lists.items in
    let old : State = record { heads = c.args.store.now.heads.items; rows = rows_of c.args.lists.now.vars c.args.lists.now.lists.items; trail = c.args.trail.now.lits } in
    let mid : State = record { heads = c.loop-head.store.heads.items; rows = rows_of c.loop-head.lists.vars c.loop-head.lists.lists.items; trail = c.loop-head.trail.lits } in
    let new : State = record { heads = c.visit_literal-stop.new.store.heads.items; rows = rows_of c.visit_literal-stop.new.lists.vars c.visit_literal-stop.new.lists.lists.items; trail = c.visit_literal-stop.new.trail.lits } in
    let e = c.visit_literal-stop.ensures in
    let l = c.get.ensures in
    let p = take c.loop-head.head c.loop-head.trail.lits in
    let f = c.negate-falsified.result in
    let at : c.loop-head.head < length c.loop-head.trail.lits = search rules in
    let dealt : (m : LitOf) → Contains (p ++ negate f ∷ []) m → Contains mid.trail m = rw c.negate-falsified.ensures (dealt_next c.loop-head.trail.lits c.loop-head.head c.get.result at l.lit) in
    record {
      trail = search rules;
      store_vars = search rules;
      slots = e.slots ∙ i.slots;
      store_count = e.store_count ∙ i.store_count;
      lists_vars = search rules;
      lists_clauses = search rules;
      step = λ filed kept.
          let x = i.step filed kept in
          let w : Walks slots pairs old mid = x.0 in
          let y = subst (λ z. IsFiled z mid pairs → AllKept p mid.trail z mid.heads → ((m : LitOf) → Contains (p ++ negate f ∷ []) m → Contains mid.trail m)
          → Walks z pairs mid new × EndFits (p ++ negate f ∷ []) z new c.visit_literal-stop.result) i.slots (e.step p) w.filed x.1 dealt in
          let g : Walks slots pairs mid new = y.0 in
          let t : Propagates (clauses_of slots) mid.trail new.trail = g.grown in
          let next : p ++ negate f ∷ [] ≡ take (c.loop-head.head + 1) new.trail = rw c.negate-falsified.ensures (take_next c.loop-head.trail.lits new.trail t.added c.loop-head.head c.get.result at l.lit t.grown) in (
            walks_trans slots pairs old mid new w y.0,
            subst (λ z. AllKept z new.trail slots new.heads) next (end_none (p ++ negate f ∷ []) slots new c.visit_literal-stop.result (search rules) y.1),
          );
    }

pub returns-clause-step : goal.returns-clause-step
returns-clause-step c = λ filed kept.
    let i = c.loop-head.invariant in
    let x = i.step filed kept in
    (x.0, subst (λ z. AllKept z c.loop-head.trail.lits (slots_of c.args.store.now.lits.items c.args.store.now.heads.items) c.loop-head.store.heads.items) (take_all c.loop-head.head c.loop-head.trail.lits (search rules)) x.1)
