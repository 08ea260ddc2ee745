use Rattle.std.proofs.Common.{◌≤◌, List}
use Rattle.std.specs.Prelude.{All, Option}
use Rattle.cnf_form.specs.Cnf.{LitOf}
use Rattle.unit_propagation.specs.Watch.{WatchFits}
use Rattle.unit_propagation.specs.Visit.{State, IsVisited}
use Rattle.unit_propagation.proofs.walk.keep_rest.Given as goal

abbrev pub invariant-loop-k : goal.invariant-loop-k
invariant-loop-k l = record {
  kept : l.kept ≤ l.k;
  list : All (WatchFits l.lists.vars l.lists.clauses) l.list;
  step : (slots : List (Option (List LitOf))) (start s : State) (f : LitOf) → IsVisited slots start s f l.fn.list l.fn.kept l.fn.from
      → IsVisited slots start s f l.list l.kept l.k;
}
