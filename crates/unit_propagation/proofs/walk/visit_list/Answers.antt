use Rattle.std.proofs.Common.{◌+◌, ◌≡◌, length, rules, subst, ◌∙◌}
use Rattle.unit_propagation.specs.Watch.{slots_of, rows_of}
use Rattle.unit_propagation.specs.Visit.{State, IsVisited, IsPending, StopFits}
use Rattle.unit_propagation.proofs.Arms.{stop_some, stop_none}
use Rattle.unit_propagation.proofs.walk.visit_list.Goals as goal

pub returns-then-is_some-clause-step : goal.returns-then-is_some-clause-step
returns-then-is_some-clause-step c = λ p v q.
    let i = c.loop-k.invariant in
    let e = c.visit_entry-more.ensures in
    let r = c.keep_rest.ensures in
    let old : State = record { heads = c.args.store.now.heads.items; rows = rows_of c.args.lists.now.vars c.args.lists.now.lists.items; trail = c.args.trail.now.lits } in
    let mid : State = record { heads = c.loop-k.store.heads.items; rows = rows_of c.loop-k.lists.vars c.loop-k.lists.lists.items; trail = c.loop-k.trail.lits } in
    let new : State = record { heads = c.visit_entry-more.new.store.heads.items; rows = rows_of c.visit_entry-more.new.lists.vars c.visit_entry-more.new.lists.lists.items; trail = c.visit_entry-more.new.trail.lits } in
    let f = c.args.falsified in
    let w = i.step p v q in
    let go = subst (λ z. IsVisited z old mid f c.loop-k.list c.loop-k.kept c.loop-k.k → IsPending p f z mid c.loop-k.list c.loop-k.k
    → IsVisited z old new f c.visit_entry-more.new.list c.visit_entry-more.result.kept (c.loop-k.k + 1) × StopFits p f z new c.visit_entry-more.new.list (c.loop-k.k + 1) c.visit_entry-more.result.stop) i.slots (e.step p old) in
    let x = go w.0 w.1 in (
      subst (IsVisited (slots_of c.args.store.now.lits.items c.args.store.now.heads.items) old new f c.keep_rest.new.list c.keep_rest.result) (search rules) (r.step _ old new f x.0),
      stop_some p f _ new _ _ _ _ c.visit_entry-more.result.stop (search rules) x.1,
    )

pub loop-k-preserved : goal.loop-k-preserved
loop-k-preserved c =
    let i = c.loop-k.invariant in
    let e = c.visit_entry-more.ensures in
    let old : State = record { heads = c.args.store.now.heads.items; rows = rows_of c.args.lists.now.vars c.args.lists.now.lists.items; trail = c.args.trail.now.lits } in
    let mid : State = record { heads = c.loop-k.store.heads.items; rows = rows_of c.loop-k.lists.vars c.loop-k.lists.lists.items; trail = c.loop-k.trail.lits } in
    let new : State = record { heads = c.visit_entry-more.new.store.heads.items; rows = rows_of c.visit_entry-more.new.lists.vars c.visit_entry-more.new.lists.lists.items; trail = c.visit_entry-more.new.trail.lits } in
    let f = c.args.falsified in
    record {
      kept = search rules;
      trail = search rules;
      store_vars = search rules;
      slots = e.slots ∙ i.slots;
      store_count = e.store_count ∙ i.store_count;
      lists_vars = search rules;
      lists_clauses = search rules;
      lists_count = search rules;
      list = search rules;
      step = λ p v q.
          let w = i.step p v q in
          let go = subst (λ z. IsVisited z old mid f c.loop-k.list c.loop-k.kept c.loop-k.k → IsPending p f z mid c.loop-k.list c.loop-k.k
          → IsVisited z old new f c.visit_entry-more.new.list c.visit_entry-more.result.kept (c.loop-k.k + 1) × StopFits p f z new c.visit_entry-more.new.list (c.loop-k.k + 1) c.visit_entry-more.result.stop) i.slots (e.step p old) in
          let x = go w.0 w.1 in
          (x.0, stop_none p f _ new _ _ c.visit_entry-more.result.stop (search rules) x.1);
    }

pub returns-clause-step : goal.returns-clause-step
returns-clause-step c = λ p v q.
    let i = c.loop-k.invariant in
    let x = i.step p v q in
    let f = c.args.falsified in
    let slots = slots_of c.args.store.now.lits.items c.args.store.now.heads.items in
    let old : State = record { heads = c.args.store.now.heads.items; rows = rows_of c.args.lists.now.vars c.args.lists.now.lists.items; trail = c.args.trail.now.lits } in
    let new : State = record { heads = c.loop-k.store.heads.items; rows = rows_of c.loop-k.lists.vars c.loop-k.lists.lists.items; trail = c.loop-k.trail.lits } in
    let end : c.loop-k.k ≡ length c.args.list.now = search rules in
    (subst (IsVisited slots old new f c.loop-k.list c.loop-k.kept) end x.0, subst (IsPending p f slots new c.loop-k.list) end x.1)
