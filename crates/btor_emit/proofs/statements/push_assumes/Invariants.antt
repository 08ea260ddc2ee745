use Rattle.std.proofs.Common.{take}
use Rattle.btor_core.specs.Shape.{bads, constraints}
use Rattle.btor_emit.specs.Said.{AreSaid, is_held}
use Rattle.btor_emit.proofs.statements.push_assumes.Given as goal

abbrev pub invariant-loop-k : goal.invariant-loop-k
invariant-loop-k l = AreSaid constraints bads l.fn.draft l.draft l.fn.table l.table (take l.k l.assumes) is_held
