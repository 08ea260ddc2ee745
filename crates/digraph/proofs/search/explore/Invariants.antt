use Rattle.std.proofs.Common.{◌≡◌, ℕ, Some}
use Rattle.std.specs.Prelude.{slice_get}
use Rattle.digraph.specs.Search.{Led, State, work}
use Rattle.digraph.specs.declared.search.Mark.TheVariants.{New}
use Rattle.digraph.proofs.search.explore.Given as goal

abbrev pub invariant-loop-last : goal.invariant-loop-last
invariant-loop-last l = record {
  state : State l.graph l.search.marks.items l.search.cursors.items l.search.stack.items l.search.bounds.items l.search.path.items l.search.order.items l.search.cyclic.items;
  led : Led l.graph l.search.marks.items l.search.leaders.items;
  seen : (a : ℕ) → slice_get l.search.marks.items a ≡ Some New → slice_get l.fn.search.marks.items a ≡ Some New;
  start : slice_get l.search.marks.items l.start ≡ Some New → ⊥;
}

abbrev pub decreases-loop-last : goal.decreases-loop-last
decreases-loop-last l = work l.graph l.search.marks.items l.search.cursors.items l.search.path.items
