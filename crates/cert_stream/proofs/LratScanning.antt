-- How an id's word is read from the left.
use Rattle.std.proofs.Common.{◌≡◌, ℕ, Bool, true, false, cond, not, eqb, Result, Ok, Err, refl, subst}
use Rattle.cert_stream.specs.Machine.{with_digit}
use Rattle.cert_stream.specs.declared.mode.ParseFaultKind.{ParseFaultKind}
use Rattle.cert_stream.specs.declared.mode.ParseFaultKind.TheVariants.{BadLiteral}
use Rattle.cert_stream.specs.LratMachine.{begins_id, hint, id_goes_on}
use Rattle.cert_stream.specs.LratScan.{digit_next, first_next, part_next}
use Rattle.cert_stream.specs.declared.lrat.mode.IdList.{IdList}
use Rattle.cert_stream.specs.declared.lrat.mode.IdPart.{IdPart}
use Rattle.cert_stream.specs.declared.lrat.mode.IdPart.TheVariants.{Gap, Minus, Zero, Digits}

-- what is no gap
abbrev pub IsBegun : IdPart → Type 0
IsBegun Gap = ⊥
IsBegun (Minus place) = Unit {0}
IsBegun Zero = Unit {0}
IsBegun (Digits h) = Unit {0}

abbrev Begins : Result IdPart ParseFaultKind → Type 0
Begins (Ok part) = IsBegun part
Begins (Err k) = Unit {0}

either : (b : Bool) (s t : Result IdPart ParseFaultKind) → Begins s → Begins t → Begins (cond b s t)
either true s t h k = h
either false s t h k = k

digit_begins : (negated : Bool) (place n b : ℕ) → Begins (digit_next negated place n b)
digit_begins negated place n b = either (id_goes_on n b) (Ok (Digits (hint (with_digit n b) negated place))) (Err BadLiteral) tt tt

first_begins : (kind : IdList) (full : Bool) (place b : ℕ) → Begins (first_next kind full place b)
first_begins kind full place b =
    either (eqb b 48) _ _ tt (either (not (begins_id kind b)) _ _ tt (either full _ _ tt (either (eqb b 45) _ _ tt (digit_begins false place 0 b))))

next_begins : (kind : IdList) (full : Bool) (place : ℕ) (part : IdPart) (b : ℕ) → Begins (part_next kind full place part b)
next_begins kind full place Gap b = first_begins kind full place b
next_begins kind full place (Minus at) b = digit_begins true at 0 b
next_begins kind full place Zero b = tt
next_begins kind full place (Digits h) b = digit_begins h.negated h.place h.id b

pub next_begun : (kind : IdList) (full : Bool) (place : ℕ) (part to : IdPart) (b : ℕ) → part_next kind full place part b ≡ Ok to → IsBegun to
next_begun kind full place part to b e = subst Begins e (next_begins kind full place part b)

-- after a word's first byte its place says no more
pub place_begun : (kind : IdList) (full : Bool) (place taken : ℕ) (part : IdPart) (b : ℕ) → IsBegun part → part_next kind full place part b ≡ part_next kind full taken part b
place_begun kind full place taken Gap b i = absurd i
place_begun kind full place taken (Minus at) b i = refl
place_begun kind full place taken Zero b i = refl
place_begun kind full place taken (Digits h) b i = refl
