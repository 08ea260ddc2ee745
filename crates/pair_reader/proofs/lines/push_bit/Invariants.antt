use Rattle.std.proofs.Common.{◌≡◌, ℕ, ◌-◌, ◌<◌, length}
use Rattle.pair_form.specs.Text.{bits_text}
use Rattle.pair_reader.specs.Bits.{AreBits}
use Rattle.pair_reader.proofs.lines.push_bit.Given as goal

abbrev pub invariant-loop-bits : goal.invariant-loop-bits
invariant-loop-bits l = record {
  below : length l.bits.items < l.number;
  text : bits_text 1 l.bits.items ≡ bits_text 1 l.initial.bits.items;
  within : (vars : ℕ) → AreBits vars l.initial.bits.items → AreBits vars l.bits.items;
}

abbrev pub decreases-loop-bits : goal.decreases-loop-bits
decreases-loop-bits l = l.number - length l.bits.items
