use Rattle.std.proofs.Common.{◌≡◌, ℕ, ◌≤◌, Some, length}
use Rattle.std.specs.Prelude.{slice_get}
use Rattle.digraph.proofs.search.merge.Given as goal

abbrev pub invariant-loop-search : goal.invariant-loop-search
invariant-loop-search l = record {
  within : (j x : ℕ) → slice_get l.search.bounds.items j ≡ Some x → slice_get l.fn.search.bounds.items j ≡ Some x;
  kept : (j x : ℕ) → slice_get l.fn.search.bounds.items j ≡ Some x → x ≤ l.place → slice_get l.search.bounds.items j ≡ Some x;
  marks : l.search.marks.items ≡ l.fn.search.marks.items;
  cursors : l.search.cursors.items ≡ l.fn.search.cursors.items;
  stack : l.search.stack.items ≡ l.fn.search.stack.items;
  path : l.search.path.items ≡ l.fn.search.path.items;
  order : l.search.order.items ≡ l.fn.search.order.items;
  leaders : l.search.leaders.items ≡ l.fn.search.leaders.items;
  cyclic : l.search.cyclic.items ≡ l.fn.search.cyclic.items;
}

abbrev pub decreases-loop-search : goal.decreases-loop-search
decreases-loop-search l = length l.search.bounds.items
