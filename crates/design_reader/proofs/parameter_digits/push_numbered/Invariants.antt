use Rattle.std.proofs.Common.{◌≡◌, ◌+◌, ◌++◌, drop}
use Rattle.rtlil_constant.specs.Constants.{open_digits}
use Rattle.design_reader.specs.Grammar.{numbered_digits}
use Rattle.design_reader.proofs.parameter_digits.push_numbered.Given as goal

abbrev pub invariant-loop-digit : goal.invariant-loop-digit
invariant-loop-digit l = record {
  row : l.row.items ++ numbered_digits l.number (drop l.digit-index l.digits) ≡ l.fn.row.items ++ numbered_digits l.first l.digits;
  count : l.number + open_digits (drop l.digit-index l.digits) ≡ l.first + open_digits l.digits;
}
