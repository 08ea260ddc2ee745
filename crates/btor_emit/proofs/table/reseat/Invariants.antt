use Rattle.std.proofs.Common.{take}
use Rattle.btor_emit.specs.Stretching.{IsReseated}
use Rattle.btor_emit.proofs.table.reseat.Given as goal

abbrev pub invariant-loop-bit : goal.invariant-loop-bit
invariant-loop-bit l = IsReseated l.fn.table l.table (take l.bit l.places) l.row
