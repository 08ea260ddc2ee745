use Rattle.std.proofs.Common.{◌≡◌, ◌<◌, ◌^◌, take, drop, map}
use Rattle.std.specs.Prelude.{reverse}
use Rattle.design_core.specs.Digits.{number_digits}
use Rattle.rtlil_constant.specs.Constants.{open_digits}
use Rattle.design_reader.specs.Grammar.{plain_digit}
use Rattle.design_reader.proofs.parameter_digits.binary_number.Given as goal

abbrev pub invariant-loop-digit : goal.invariant-loop-digit
invariant-loop-digit l = record {
  fits : l.number < 2 ^ l.digit-index;
  digits : number_digits l.digit-index l.number ≡ map plain_digit (reverse (take l.digit-index l.digits));
  closed : open_digits (drop l.digit-index l.digits) ≡ open_digits l.digits;
}
