use Rattle.std.proofs.Common.{◌≡◌, ◌≤◌, ◌^◌, length}
use Rattle.lrat_check.specs.Marks.{Marks}
use Rattle.hint_chain.specs.Chains.{Goes}
use Rattle.hint_chain.proofs.chain.follow_back.Given as goal

abbrev pub invariant-loop-taken : goal.invariant-loop-taken
invariant-loop-taken l = record {
  marked : Marks l.marked.marks.items l.marked.trail.items;
  sized : length l.marked.marks.items ≡ length l.fn.marked.marks.items;
  few : length l.hints.items ≤ 2 ^ 27;
  goes : Goes l.core.slots l.ids l.fn.hints.items l.hints.items l.fn.marked.trail.items l.marked.trail.items;
}
