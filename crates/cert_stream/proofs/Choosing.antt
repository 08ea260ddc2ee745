-- How a list goes on after a part of a word.
use Rattle.std.proofs.Common.{◌≡◌, ℕ, Bool, true, false, cond, not, eqb, Result, Ok, Err, refl}
use Rattle.cert_stream.specs.Machine.{begins_literal, goes_on, literal, with_digit}
use Rattle.cert_stream.specs.Scan.{digit_next, first_next}
use Rattle.cert_stream.specs.declared.mode.ParseFaultKind.{ParseFaultKind}
use Rattle.cert_stream.specs.declared.mode.ParseFaultKind.TheVariants.{BadLiteral, LineTooLong}
use Rattle.cert_stream.specs.declared.mode.Part.{Part}
use Rattle.cert_stream.specs.declared.mode.Part.TheVariants.{Minus, Zero, Digits}

-- what is made of a part P, and where there is none
module _ {P T : Type 0} (goes : P → T) (fails : ParseFaultKind → T) where
  abbrev pub by_part : Result P ParseFaultKind → T
  by_part (Ok part) = goes part
  by_part (Err k) = fails k

  pub by_digit : (going : Bool) (part : P) → cond going (goes part) (fails BadLiteral) ≡ by_part (cond going (Ok part) (Err BadLiteral))
  by_digit true part = refl
  by_digit false part = refl

  pub by_first : (zeroed begins full negated : Bool) (zero minus : P) (turned : T) (next : Result P ParseFaultKind) → turned ≡ by_part next
      → cond zeroed (goes zero) (cond (not begins) (fails BadLiteral) (cond full (fails LineTooLong) (cond negated (goes minus) turned)))
      ≡ by_part (cond zeroed (Ok zero) (cond (not begins) (Err BadLiteral) (cond full (Err LineTooLong) (cond negated (Ok minus) next))))
  by_first true begins full negated zero minus turned next e = refl
  by_first false false full negated zero minus turned next e = refl
  by_first false true true negated zero minus turned next e = refl
  by_first false true false true zero minus turned next e = refl
  by_first false true false false zero minus turned next e = e

-- a part of a literal
module _ {T : Type 0} (vars : ℕ) (goes : Part → T) (fails : ParseFaultKind → T) where
  abbrev digit : Bool → ℕ → ℕ → T
  digit negated n b = cond (goes_on vars n b) (goes (Digits (literal (with_digit n b) negated))) (fails BadLiteral)

  pub literal_digit : (negated : Bool) (n b : ℕ) → digit negated n b ≡ by_part goes fails (digit_next vars negated n b)
  literal_digit negated n b = by_digit goes fails (goes_on vars n b) (Digits (literal (with_digit n b) negated))

  pub literal_first : (full : Bool) (b : ℕ)
      → cond (eqb b 48) (goes Zero) (cond (not (begins_literal vars b)) (fails BadLiteral) (cond full (fails LineTooLong) (cond (eqb b 45) (goes Minus) (digit false 0 b))))
      ≡ by_part goes fails (first_next vars full b)
  literal_first full b = by_first goes fails (eqb b 48) (begins_literal vars b) full (eqb b 45) Zero Minus (digit false 0 b) (digit_next vars false 0 b) (literal_digit false 0 b)
