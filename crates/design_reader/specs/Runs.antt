-- One digit, this many times.
use Rattle.std.specs.Prelude.{ℕ, zero, suc, ◌+◌, cond, List, [], ◌∷◌, ◌++◌, replicate}
use Rattle.design_core.specs.declared.digit.Digit.{Digit}
use Rattle.design_core.specs.declared.digit.Digit.TheVariants.{Free as FreeDigit}
use Rattle.design_signals.specs.Parts.{free_row}
use Rattle.design_signals.specs.declared.sig_bit.SigBit.{SigBit}
use Rattle.rtlil_constant.specs.Constants.{is_open}
use Rattle.design_reader.specs.Grammar.{plain_bit}

-- free bits among digits, numbered from n on
abbrev pub free_digits : ℕ → ℕ → List Digit
free_digits n zero = []
free_digits n (suc count) = FreeDigit n ∷ free_digits (n + 1) count

-- one digit, this many times, as bits of a signal, highest first
abbrev pub bits_run : ℕ → ℕ → ℕ → List SigBit
bits_run n c count = cond (is_open c) (free_row n count) (replicate count (plain_bit c))

abbrev pub plain_run : ℕ → ℕ → List SigBit
plain_run c count = replicate count (plain_bit c)

-- bits below those of the last row, which stands first here
abbrev pub below : List (List SigBit) → List SigBit → List (List SigBit)
below [] bits = []
below (row ∷ rows) bits = (row ++ bits) ∷ rows
