use Rattle.std.proofs.Common.{◌≤◌, length}
use Rattle.btor_emit.proofs.Marking.{AreMarked, AreUsed}
use Rattle.btor_emit.proofs.reads.mark_read.Given as goal

abbrev pub invariant-loop-register : goal.invariant-loop-register
invariant-loop-register l = AreUsed l.model l.marks l.register

abbrev pub invariant-loop-left : goal.invariant-loop-left
invariant-loop-left l = record {
  most : l.left ≤ length l.model.nodes;
  marked : AreMarked l.model l.marks l.left;
}

abbrev pub decreases-loop-left : goal.decreases-loop-left
decreases-loop-left l = l.left
