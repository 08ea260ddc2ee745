use Rattle.std.proofs.Common.{◌≡◌, ◌<◌, ℕ, [], Some}
use Rattle.std.specs.Prelude.{slice_get}
use Rattle.digraph.specs.Search.{Led, State}
use Rattle.digraph.specs.declared.search.Mark.TheVariants.{New}
use Rattle.digraph.proofs.search.sort.Given as goal

abbrev pub invariant-loop-node : goal.invariant-loop-node
invariant-loop-node l = record {
  state : State l.graph l.search.marks.items l.search.cursors.items l.search.stack.items l.search.bounds.items [] l.search.order.items l.search.cyclic.items;
  led : Led l.graph l.search.marks.items l.search.leaders.items;
  path : l.search.path.items ≡ [];
  seen : (a : ℕ) → a < l.node → slice_get l.search.marks.items a ≡ Some New → ⊥;
}
