-- An id's word, read from the left.
use Rattle.std.specs.Prelude.{ℕ, Bool, true, false, cond, not, eqb, Result, Ok, Err}
use Rattle.cert_stream.specs.Machine.{with_digit}
use Rattle.cert_stream.specs.declared.mode.ParseFaultKind.{ParseFaultKind}
use Rattle.cert_stream.specs.declared.mode.ParseFaultKind.TheVariants.{BadLiteral, LineTooLong}
use Rattle.cert_stream.specs.LratMachine.{begins_id, hint, id_goes_on}
use Rattle.cert_stream.specs.declared.lrat.mode.IdList.{IdList}
use Rattle.cert_stream.specs.declared.lrat.mode.IdPart.{IdPart}
use Rattle.cert_stream.specs.declared.lrat.mode.IdPart.TheVariants.{Gap, Minus, Zero, Digits}

-- a line's own id, of which 0 is what has no digit
abbrev pub own_next : ℕ → ℕ → Result ℕ ParseFaultKind
own_next n b = cond (id_goes_on n b) (Ok (with_digit n b)) (Err BadLiteral)

-- one digit more of an id in a list
abbrev pub digit_next : Bool → ℕ → ℕ → ℕ → Result IdPart ParseFaultKind
digit_next negated place n b = cond (id_goes_on n b) (Ok (Digits (hint (with_digit n b) negated place))) (Err BadLiteral)

-- the first byte of a word at `place`; `full` tells that the line has as many ids as it may
abbrev pub first_next : IdList → Bool → ℕ → ℕ → Result IdPart ParseFaultKind
first_next kind full place b =
    cond (eqb b 48) (Ok Zero)
    (cond (not (begins_id kind b)) (Err BadLiteral) (cond full (Err LineTooLong) (cond (eqb b 45) (Ok (Minus place)) (digit_next false place 0 b))))

-- one byte more
abbrev pub part_next : IdList → Bool → ℕ → IdPart → ℕ → Result IdPart ParseFaultKind
part_next kind full place Gap b = first_next kind full place b
part_next kind full place (Minus at) b = digit_next true at 0 b
part_next kind full place Zero b = Err BadLiteral
part_next kind full place (Digits h) b = digit_next h.negated h.place h.id b
