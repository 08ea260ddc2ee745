use Rattle.std.proofs.Common.{◌≡◌, take, true}
use Rattle.std.specs.Bool.{beq}
use Rattle.std.specs.List.{list_all}
use Rattle.btor_words.proofs.constants.is_filled.Given as goal

abbrev pub invariant-loop-bit : goal.invariant-loop-bit
invariant-loop-bit l = list_all (λ b. beq b l.digit) (take l.bit-index l.bits) ≡ true
