use Rattle.std.proofs.Common.{◌≡◌, ◌≤◌, ◌^◌, length}
use Rattle.pair_form.specs.Pair.{PairOf, IsPair}
use Rattle.pair_form.specs.Text.{pair_text}
use Rattle.pair_reader.specs.Bits.{AreBits}
use Rattle.pair_reader.proofs.BitLines.{Left}
use Rattle.pair_reader.proofs.lines.read_bits.Given as goal

abbrev pub invariant-loop-line : goal.invariant-loop-line
invariant-loop-line l = record {
  few : length l.bits.items ≤ 2 ^ 31;
  within : AreBits l.vars l.bits.items;
  left : (p : PairOf) → IsPair p → p.formula.vars ≡ l.vars → pair_text p ≡ l.bytes → Left p l.bits.items l.rest;
}

abbrev pub decreases-loop-line : goal.decreases-loop-line
decreases-loop-line l = length l.rest
