use Rattle.std.proofs.Common.{rules, subst, sym}
use Rattle.std.specs.Prelude.{Contains}
use Rattle.unit_propagation.specs.declared.watch.Watch.{Watch}
use Rattle.unit_propagation.specs.Watch.{slots_of}
use Rattle.unit_propagation.specs.Visit.{PairsFit}
use Rattle.unit_propagation.proofs.Walks.{pair_grown, pair_more, pair_ends, pair_none, pairs_all}
use Rattle.unit_propagation.proofs.walk.visit_pairs.Goals as goal

pub returns-then-is_some-clause-step : goal.returns-then-is_some-clause-step
returns-then-is_some-clause-step c = λ fit off.
    let slots = slots_of c.args.store.now.lits.items c.args.store.now.heads.items in
    let heads = c.args.store.now.heads.items in
    let i = c.loop-k.invariant in
    let x = i.step fit off in
    let l = c.entries-list.ensures in
    let m = c.imply-stop.ensures in
    let f = λ (w : Watch) (h : Contains c.entries-list.result.now w). fit w (subst (λ z. Contains z w) l.row h) in (
      pair_grown slots heads c.args.falsified c.entries-list.result.now c.args.trail.now.lits c.loop-k.trail.lits c.imply-stop.new.trail.lits c.loop-k.k c.index-list-k.result c.index-list-k-in-loop-k.result c.loop-k-test.true f off x.0 m.grown,
      subst (λ z. PairsFit slots z c.imply-stop.new.trail.lits c.imply-stop.result) l.row
          (pair_ends slots heads c.args.falsified c.entries-list.result.now c.args.trail.now.lits c.loop-k.trail.lits c.imply-stop.new.trail.lits c.loop-k.k c.index-list-k.result c.index-list-k-in-loop-k.result c.loop-k-test.true f off x.0 c.imply-stop.result (search rules) m.ends),
    )

pub loop-k-preserved : goal.loop-k-preserved
loop-k-preserved c =
    let i = c.loop-k.invariant in
    record {
      vars = search rules;
      step = λ fit off.
          let slots = slots_of c.args.store.now.lits.items c.args.store.now.heads.items in
          let heads = c.args.store.now.heads.items in
          let x = i.step fit off in
          let l = c.entries-list.ensures in
          let m = c.imply-stop.ensures in
          let f = λ (w : Watch) (h : Contains c.entries-list.result.now w). fit w (subst (λ z. Contains z w) l.row h) in (
            pair_grown slots heads c.args.falsified c.entries-list.result.now c.args.trail.now.lits c.loop-k.trail.lits c.imply-stop.new.trail.lits c.loop-k.k c.index-list-k.result c.index-list-k-in-loop-k.result c.loop-k-test.true f off x.0 m.grown,
            pair_more slots heads c.args.falsified c.entries-list.result.now c.args.trail.now.lits c.loop-k.trail.lits c.imply-stop.new.trail.lits c.loop-k.k c.index-list-k.result c.index-list-k-in-loop-k.result c.loop-k-test.true f off x.0 x.1 m.grown
                (pair_none slots c.loop-k.trail.lits _ _ _ c.imply-stop.result (search rules) m.ends),
          );
    }

pub returns-clause-step : goal.returns-clause-step
returns-clause-step c = λ fit off.
    let slots = slots_of c.args.store.now.lits.items c.args.store.now.heads.items in
    let heads = c.args.store.now.heads.items in
    let i = c.loop-k.invariant in
    let x = i.step fit off in
    let l = c.entries-list.ensures in
    (x.0, λ w k h is. pairs_all slots c.entries-list.result.now c.loop-k.trail.lits c.loop-k.k c.loop-k-test.false x.1 w k (subst (λ z. Contains z w) (sym l.row) h) is)
