use Rattle.std.proofs.Common.{length, ◌-◌}
use Rattle.btor_emit.proofs.Nexting.{PartsTo}
use Rattle.btor_emit.proofs.registers.push_parts.Given as goal

abbrev pub invariant-loop-done : goal.invariant-loop-done
invariant-loop-done l = PartsTo l.fn.draft l.draft l.states l.from l.done l.row l.first l.end

abbrev pub decreases-loop-done : goal.decreases-loop-done
decreases-loop-done l = length l.states - l.done
