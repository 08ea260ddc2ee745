use Rattle.btor_emit.specs.Marks.{Marks}
use Rattle.btor_emit.proofs.Marking.{IsCopyTo}
use Rattle.btor_emit.proofs.reads.mark_copied.Given as goal

abbrev pub invariant-loop-k : goal.invariant-loop-k
invariant-loop-k l = Marks l.fn.marks l.marks (IsCopyTo l.fn.marks l.places l.copies l.k)
