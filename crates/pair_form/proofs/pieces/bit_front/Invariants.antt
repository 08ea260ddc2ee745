use Rattle.std.proofs.Common.{◌≡◌, ◌+◌, drop}
use Rattle.pair_form.specs.Text.{bits_text}
use Rattle.pair_form.proofs.pieces.bit_front.Given as goal

abbrev pub invariant-loop-at : goal.invariant-loop-at
invariant-loop-at l = bits_text (l.at + 1) (drop l.at l.pair.bits) ≡ bits_text (l.place + 1) (drop l.place l.pair.bits)
