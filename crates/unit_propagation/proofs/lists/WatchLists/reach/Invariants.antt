use Rattle.std.proofs.Common.{◌≡◌, ◌≤◌, length}
use Rattle.unit_propagation.specs.Watch.{rows_of}
use Rattle.unit_propagation.proofs.lists.WatchLists.reach.Given as goal

abbrev pub invariant-loop : goal.invariant-loop
invariant-loop l = record {
  vars : l.self.vars ≡ l.fn.self.vars;
  clauses : l.self.clauses ≡ l.fn.self.clauses;
  at : length l.self.lists.items ≡ l.counter;
  count : length l.fn.self.lists.items ≤ length l.self.lists.items;
  rows : rows_of l.self.vars l.self.lists.items ≡ rows_of l.fn.self.vars l.fn.self.lists.items;
}
