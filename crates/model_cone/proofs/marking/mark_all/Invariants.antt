use Rattle.std.proofs.Common.{take}
use Rattle.std.specs.Prelude.{Contains}
use Rattle.model_cone.specs.Marking.{Spreads}
use Rattle.model_cone.proofs.marking.mark_all.Given as goal

abbrev pub invariant-loop-place : goal.invariant-loop-place
invariant-loop-place l = Spreads (Contains (take l.place-index l.places)) l.fn.marking.marks.items l.fn.marking.stack.items l.marking.marks.items l.marking.stack.items
