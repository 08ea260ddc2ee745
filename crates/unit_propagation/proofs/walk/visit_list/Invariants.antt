use Rattle.std.proofs.Common.{◌≤◌, List, length, ◌≡◌}
use Rattle.std.specs.Prelude.{All}
use Rattle.cnf_form.specs.Cnf.{LitOf}
use Rattle.unit_propagation.specs.Watch.{WatchFits, slots_of, rows_of}
use Rattle.unit_propagation.specs.Visit.{State, IsVisited, IsPending}
use Rattle.unit_propagation.proofs.walk.visit_list.Given as goal

abbrev pub invariant-loop-k : goal.invariant-loop-k
invariant-loop-k l = record {
  kept : l.kept ≤ l.k;
  trail : l.trail.vars ≡ l.fn.trail.vars;
  store_vars : l.store.vars ≡ l.fn.store.vars;
  slots : slots_of l.store.lits.items l.store.heads.items ≡ slots_of l.fn.store.lits.items l.fn.store.heads.items;
  store_count : length l.store.heads.items ≡ length l.fn.store.heads.items;
  lists_vars : l.lists.vars ≡ l.fn.lists.vars;
  lists_clauses : l.lists.clauses ≡ l.fn.lists.clauses;
  lists_count : length l.fn.lists.lists.items ≤ length l.lists.lists.items;
  list : All (WatchFits l.fn.lists.vars l.fn.lists.clauses) l.list;
  step : (p : List LitOf)
      → let slots = slots_of l.fn.store.lits.items l.fn.store.heads.items in
      let old : State = record { heads = l.fn.store.heads.items; rows = rows_of l.fn.lists.vars l.fn.lists.lists.items; trail = l.fn.trail.lits } in
      let new : State = record { heads = l.store.heads.items; rows = rows_of l.lists.vars l.lists.lists.items; trail = l.trail.lits } in
      IsVisited slots old old l.falsified l.fn.list 0 0 → IsPending p l.falsified slots old l.fn.list 0
      → IsVisited slots old new l.falsified l.list l.kept l.k × IsPending p l.falsified slots new l.list l.k;
}
