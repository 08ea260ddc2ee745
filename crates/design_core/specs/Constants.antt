-- The digits of a constant that is kept.
use Rattle.std.specs.Prelude.{◌≤◌, ◌<◌, ◌^◌, List, ◌++◌}
use Rattle.design_core.specs.Digits.{above_digits, number_digits}
use Rattle.design_core.specs.declared.digit.Digit.{Digit}
use Rattle.design_core.specs.declared.digit.ConstantParts.{ConstantParts}
use Rattle.design_core.specs.declared.digit.ConstantParts.TheVariants.{Number, Digits}

abbrev pub digits_in : ConstantParts → List Digit
digits_in (Number value width) = number_digits width value
digits_in (Digits long) = long.value.digits.items ++ above_digits long.value.above

abbrev pub IsConstant : ConstantParts → Type 0
IsConstant (Number value width) = (width ≤ 64) × (value < 2 ^ width)
IsConstant (Digits long) = Unit {0}
