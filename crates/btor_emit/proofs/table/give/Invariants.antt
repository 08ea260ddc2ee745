use Rattle.std.proofs.Common.{take}
use Rattle.btor_emit.specs.Stretching.{IsSeated}
use Rattle.btor_emit.proofs.table.give.Given as goal

abbrev pub invariant-loop-bit : goal.invariant-loop-bit
invariant-loop-bit l = IsSeated l.fn.table l.table (take l.bit l.places) l.word
