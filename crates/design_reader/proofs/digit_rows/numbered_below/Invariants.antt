use Rattle.std.proofs.Common.{◌≡◌, ◌+◌, ◌≤◌, drop, length}
use Rattle.rtlil_constant.specs.Constants.{open_digits}
use Rattle.design_reader.specs.Grammar.{numbered_bits}
use Rattle.design_reader.specs.Runs.{below}
use Rattle.design_reader.proofs.digit_rows.numbered_below.Given as goal

abbrev pub invariant-loop-digit : goal.invariant-loop-digit
invariant-loop-digit l = record {
  bits : below l.segments (numbered_bits l.number (drop l.digit-index l.digits)) ≡ below l.fn.segments (numbered_bits l.first l.digits);
  count : l.number + open_digits (drop l.digit-index l.digits) ≡ l.first + open_digits l.digits;
  some : 1 ≤ length l.segments;
}
