use Rattle.model_cone.specs.Marking.{IsSpread, work}
use Rattle.model_cone.proofs.cone.spread.Given as goal

abbrev pub invariant-places : goal.invariant-places
invariant-places l = IsSpread l.model l.fn.asked l.marking.marks.items l.marking.stack.items

abbrev pub decreases-places : goal.decreases-places
decreases-places l = work l.marking.marks.items l.marking.stack.items
