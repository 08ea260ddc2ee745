use Rattle.std.proofs.Common.{◌≡◌, ◌≤◌, ◌^◌, length, take}
use Rattle.lrat_check.specs.Marks.{Marks}
use Rattle.unit_propagation.specs.Propagation.{IsFixpoint}
use Rattle.unit_propagation.specs.Propagator.{clauses_of}
use Rattle.hint_chain.specs.Chains.{Goes}
use Rattle.hint_chain.proofs.chain.follow_all.Given as goal

abbrev pub invariant-loop-k : goal.invariant-loop-k
invariant-loop-k l = record {
  marked : Marks l.marked.marks.items l.marked.trail.items;
  sized : length l.marked.marks.items ≡ length l.fn.marked.marks.items;
  few : length l.hints.items ≤ 2 ^ 27;
  goes : Goes l.core.slots l.ids l.fn.hints.items l.hints.items l.fn.marked.trail.items l.marked.trail.items;
  fixpoint : length l.marked.trail.items ≡ length l.fn.marked.trail.items → IsFixpoint l.marked.trail.items (clauses_of (take l.k l.core.slots));
}
