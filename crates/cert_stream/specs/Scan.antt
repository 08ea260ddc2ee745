-- A word, read from the left.
use Rattle.std.specs.Prelude.{ℕ, ◌+◌, Bool, true, false, cond, not, eqb, List, [], ◌∷◌, Result, Ok, Err}
use Rattle.cert_stream.specs.Machine.{begins_literal, goes_on, literal, with_digit}
use Rattle.cert_stream.specs.declared.mode.ParseFaultKind.{ParseFaultKind}
use Rattle.cert_stream.specs.declared.mode.ParseFaultKind.TheVariants.{BadLiteral, LineTooLong}
use Rattle.cert_stream.specs.declared.mode.Part.{Part}
use Rattle.cert_stream.specs.declared.mode.Part.TheVariants.{Gap, Minus, Zero, Digits}

-- what a word is: a part of its kind, or no such word from one of its bytes on
pub data Scanned (A : Type 0) : Type 0 where
  Reads : A → Scanned A
  Misfit : ParseFaultKind → ℕ → Scanned A

abbrev pub shift : {A : Type 0} → ℕ → Scanned A → Scanned A
shift n (Reads part) = Reads part
shift n (Misfit kind m) = Misfit kind (n + m)

-- all bytes, one after the other, by what one byte more makes of a part
abbrev pub scan_by : {A : Type 0} → (A → ℕ → Result A ParseFaultKind) → A → List ℕ → Scanned A
scan_by next part [] = Reads part
scan_by next part (b ∷ bs) = elim (next part b) [ Ok more ↦ shift 1 (scan_by next more bs) | Err kind ↦ Misfit kind 0 ]

-- one digit more of a literal
abbrev pub digit_next : ℕ → Bool → ℕ → ℕ → Result Part ParseFaultKind
digit_next vars negated n b = cond (goes_on vars n b) (Ok (Digits (literal (with_digit n b) negated))) (Err BadLiteral)

-- the first byte of a word of a list; `full` tells that the line has as many literals as there are variables
abbrev pub first_next : ℕ → Bool → ℕ → Result Part ParseFaultKind
first_next vars full b =
    cond (eqb b 48) (Ok Zero)
    (cond (not (begins_literal vars b)) (Err BadLiteral) (cond full (Err LineTooLong) (cond (eqb b 45) (Ok Minus) (digit_next vars false 0 b))))

-- one byte more
abbrev pub part_next : ℕ → Bool → Part → ℕ → Result Part ParseFaultKind
part_next vars full Gap b = first_next vars full b
part_next vars full Minus b = digit_next vars true 0 b
part_next vars full Zero b = Err BadLiteral
part_next vars full (Digits l) b = digit_next vars l.negated l.var b

-- a word of a list of literals
abbrev pub scan : ℕ → Bool → Part → List ℕ → Scanned Part
scan vars full part bytes = scan_by (part_next vars full) part bytes
