use Rattle.std.proofs.Common.{take}
use Rattle.model_cone.specs.Marking.{IsPlaceOf, Spreads}
use Rattle.model_cone.proofs.marking.mark_statements.Given as goal

abbrev pub invariant-loop-statement : goal.invariant-loop-statement
invariant-loop-statement l = Spreads (IsPlaceOf (take l.statement-index l.statements)) l.fn.marking.marks.items l.fn.marking.stack.items l.marking.marks.items l.marking.stack.items
