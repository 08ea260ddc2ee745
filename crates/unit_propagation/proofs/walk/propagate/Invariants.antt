use Rattle.std.proofs.Common.{◌+◌, ◌*◌, ◌-◌, length, take, ◌≡◌}
use Rattle.unit_propagation.specs.Watch.{slots_of, rows_of}
use Rattle.unit_propagation.specs.Visit.{State, AllKept, IsFiled, Walks}
use Rattle.unit_propagation.proofs.walk.propagate.Given as goal

abbrev pub invariant-loop-head : goal.invariant-loop-head
invariant-loop-head l = record {
  trail : l.trail.vars ≡ l.fn.trail.vars;
  store_vars : l.store.vars ≡ l.fn.store.vars;
  slots : slots_of l.store.lits.items l.store.heads.items ≡ slots_of l.fn.store.lits.items l.fn.store.heads.items;
  store_count : length l.store.heads.items ≡ length l.fn.store.heads.items;
  lists_vars : l.lists.vars ≡ l.fn.lists.vars;
  lists_clauses : l.lists.clauses ≡ l.fn.lists.clauses;
  step : let slots = slots_of l.fn.store.lits.items l.fn.store.heads.items in
      let old : State = record { heads = l.fn.store.heads.items; rows = rows_of l.fn.lists.vars l.fn.lists.lists.items; trail = l.fn.trail.lits } in
      let new : State = record { heads = l.store.heads.items; rows = rows_of l.lists.vars l.lists.lists.items; trail = l.trail.lits } in
      IsFiled slots old (rows_of l.fn.pairs.vars l.fn.pairs.lists.items) → AllKept (take l.fn.from old.trail) old.trail slots old.heads
      → Walks slots (rows_of l.fn.pairs.vars l.fn.pairs.lists.items) old new × AllKept (take l.head new.trail) new.trail slots new.heads;
}

abbrev pub decreases-loop-head : goal.decreases-loop-head
decreases-loop-head l = 2 * l.trail.vars + 2 - l.head
