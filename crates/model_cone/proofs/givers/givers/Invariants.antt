use Rattle.std.proofs.Common.{length}
use Rattle.model_cone.specs.Marking.{AreGiversTo}
use Rattle.model_cone.proofs.givers.givers.Given as goal

abbrev pub invariant-loop-i : goal.invariant-loop-i
invariant-loop-i l = AreGiversTo l.model l.i 0 l.givers.items

abbrev pub invariant-loop-i-2 : goal.invariant-loop-i-2
invariant-loop-i-2 l = AreGiversTo l.model (length l.model.nodes) l.i l.givers.items
