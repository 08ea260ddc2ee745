-- Values of the code as contracts see them.
use Rattle.std.specs.Prelude.{◌≡◌, ℕ, ◌≤◌, ◌^◌, List, length, Option, Some, None, option_map, min}
use Rattle.std.specs.Borrow.{Bor}
use Rattle.rtlil_constant.specs.Constants.{binary, string_digits, unescaped, extended}
use Rattle.rtlil_constant.specs.declared.constant.ConstantFault.{ConstantFault}
use Rattle.rtlil_constant.specs.declared.constant.ConstantFault.TheVariants.{Syntax, TooLong}
use Rattle.rtlil_constant.specs.declared.constant.Form.{Form}
use Rattle.rtlil_constant.specs.declared.constant.Form.TheVariants.{Decimal, Text, Sized}
use Rattle.rtlil_constant.specs.declared.constant.Kept.{Kept}
use Rattle.rtlil_constant.specs.declared.constant.Kept.TheVariants.{Decimal as KeptDecimal, Text as KeptText, Sized as KeptSized}
use Rattle.rtlil_constant.specs.declared.digits.Written.{Written}
use Rattle.rtlil_constant.specs.declared.digits.Written.TheVariants.{Text as AsText, Made}

abbrev pub cut_view : Option (Bor (List ℕ) × Bor (List ℕ)) → Option (List ℕ × List ℕ)
cut_view cut = option_map (λ c. (c.0.now, c.1.now)) cut

-- indices, each of which may be cut at the greatest u64
abbrev pub AreIndices : Option (ℕ × ℕ) → Option (ℕ × ℕ) → Type 0
AreIndices None at = at ≡ None
AreIndices (Some cut) at = (n : ℕ) × (m : ℕ) × (at ≡ Some (n, m)) × (cut.0 ≡ min n 18446744073709551615) × (cut.1 ≡ min m 18446744073709551615)

abbrev pub written_digits : Written → List ℕ
written_digits (AsText digits) = digits.now
written_digits (Made digits) = digits.items

-- the form of a constant with these digits; a width may be cut at the greatest u64
abbrev pub IsForm : Form → List ℕ → Type 0
IsForm (Decimal n) digits = digits ≡ binary 32 n
IsForm (Text inside) digits = digits ≡ string_digits (unescaped 0 inside.now)
IsForm (Sized width written) digits = (n : ℕ) × (width ≡ min n 18446744073709551615) × (length written.now ≤ n) × (digits ≡ extended n written.now)

-- the digits of a constant that is kept as its word says it
abbrev pub digits_of : Kept → List ℕ
digits_of (KeptDecimal n) = binary 32 n
digits_of (KeptText inside) = string_digits (unescaped 0 inside.now)
digits_of (KeptSized width written) = extended width written.now

-- no constant is kept: there is none, or it has 2 ^ 32 digits or more
abbrev pub IsRefused : ConstantFault → Option (List ℕ) → Type 0
IsRefused Syntax constant = constant ≡ None
IsRefused TooLong constant = (digits : List ℕ) × (constant ≡ Some digits) × (2 ^ 32 ≤ length digits)
