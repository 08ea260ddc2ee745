use Rattle.std.proofs.Common.{◌≡◌, ◌≢◌, ℕ, ◌<◌, Some}
use Rattle.std.specs.Prelude.{slice_get}
use Rattle.digraph.proofs.search.leads_to_itself.Given as goal

abbrev pub invariant-loop-next : goal.invariant-loop-next
invariant-loop-next l = (k x : ℕ) → k < l.next-index → slice_get l.next-items k ≡ Some x → x ≢ l.node
