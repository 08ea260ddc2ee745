use Rattle.std.proofs.Common.{◌≡◌, ◌≤◌, drop, length, map}
use Rattle.design_reader.specs.Grammar.{plain_bit}
use Rattle.design_reader.specs.Runs.{below}
use Rattle.design_reader.proofs.digit_rows.plain_below.Given as goal

abbrev pub invariant-loop-digit : goal.invariant-loop-digit
invariant-loop-digit l = record {
  bits : below l.segments (map plain_bit (drop l.digit-index l.digits)) ≡ below l.fn.segments (map plain_bit l.digits);
  some : 1 ≤ length l.segments;
}
