use Rattle.std.proofs.Common.{take}
use Rattle.btor_emit.specs.Emitting.{AreInputs}
use Rattle.btor_emit.proofs.inputs.push_inputs.Given as goal

abbrev pub invariant-loop-k : goal.invariant-loop-k
invariant-loop-k l = AreInputs l.fn.draft l.draft l.fn.table l.table (take l.k l.rows)
