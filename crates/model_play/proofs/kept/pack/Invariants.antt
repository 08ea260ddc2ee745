use Rattle.std.proofs.Common.{◌≡◌, take}
use Rattle.sby_bits.specs.Rows.{num}
use Rattle.model_play.proofs.kept.pack.Given as goal

abbrev pub invariant-loop-i : goal.invariant-loop-i
invariant-loop-i l = l.word ≡ num (take l.i l.bits)
