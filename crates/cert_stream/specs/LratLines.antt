-- What the lines of a hinted stream say.
use Rattle.std.specs.Prelude.{ℕ, ◌+◌, Bool, true, false, cond, ◌&&◌, ◌||◌, eqb, leb, List, [], ◌∷◌, ◌++◌, length, slice_index}
use Rattle.cnf_form.specs.Cnf.{LitOf}
use Rattle.cert_stream.specs.Text.{Word, is_digit, lines_of, words_from}
use Rattle.cert_stream.specs.Scan.{Reads, Misfit, scan_by, scan}
use Rattle.cert_stream.specs.Stream.{is_unknown}
use Rattle.cert_stream.specs.declared.mode.ParseFaultKind.{ParseFaultKind}
use Rattle.cert_stream.specs.declared.mode.ParseFaultKind.TheVariants.{BadLine, BadLiteral}
use Rattle.cert_stream.specs.declared.mode.Part.TheVariants.{Gap, Minus, Zero, Digits}
use Rattle.cert_stream.specs.LratTelling.{LratSaying, IsClause, IsDelete, IsValue, IsValuesEnd, IsUnknown, IsFault}
use Rattle.cert_stream.specs.LratMachine.{most_hints}
use Rattle.cert_stream.specs.LratScan.{part_next, own_next}
use Rattle.cert_stream.specs.declared.lrat.mode.Hint.{Hint}
use Rattle.cert_stream.specs.declared.lrat.mode.LitList.{LitList}
use Rattle.cert_stream.specs.declared.lrat.mode.LitList.TheVariants.{Clause, Values}
use Rattle.cert_stream.specs.declared.lrat.mode.IdList.{IdList}
use Rattle.cert_stream.specs.declared.lrat.mode.IdList.TheVariants.{Hints, Deletion}
use Rattle.cert_stream.specs.declared.lrat.mode.IdPart.TheVariants.{Gap as IdGap, Minus as IdMinus, Zero as IdZero, Digits as IdDigits}

-- no stream begins with the bytes up to and with this one
abbrev pub bad : ParseFaultKind → ℕ → List LratSaying
bad kind byte = IsFault (record { kind = kind; byte = byte }) ∷ []

-- after a line's last 0 only white space may stand
abbrev pub after_says : List LratSaying → List Word → List LratSaying
after_says more [] = more
after_says more (w ∷ ws) = bad BadLine w.place

-- what a list of ids says with its 0: the hints make the clause whole
abbrev pub ids_ended : IdList → ℕ → ℕ → List LitOf → List Hint → LratSaying
ids_ended Hints place id lits hints = IsClause id lits hints place
ids_ended Deletion place id lits hints = IsDelete hints

-- The words of a list of ids, at most 2 ^ 27 of them, then 0. An id counts once white space or a line feed follows it, a 0 also where the
-- stream ends, which `counted` tells. `broken` is said where the words end without a 0, `more` after a line that has it.
abbrev pub ids_say : IdList → Bool → List LratSaying → List LratSaying → ℕ → ℕ → List LitOf → List Hint → List Word → List LratSaying
ids_say kind counted broken more place id lits hints [] = broken
ids_say kind counted broken more place id lits hints (w ∷ ws) =
    elim (scan_by (part_next kind (leb most_hints (length hints)) w.place) IdGap w.text) [
      | Misfit k n ↦ bad k (w.place + n)
      | Reads part ↦ elim part [
        | IdGap ↦ ids_say kind counted broken more place id lits hints ws
        | IdMinus at ↦ cond w.done (bad BadLiteral (w.place + length w.text)) []
        | IdZero ↦ cond (w.done || counted) (ids_ended kind place id lits hints ∷ after_says more ws) []
        | IdDigits h ↦ cond w.done (ids_say kind counted broken more place id lits (hints ++ h ∷ []) ws) []
      ]
    ]

-- what one literal says by itself
abbrev pub heard_says : LitList → LitOf → List LratSaying
heard_says Clause l = []
heard_says Values l = IsValue l ∷ []

-- what is said where a line ends without a 0: values may go on in another line, all else is broken
abbrev pub unended_says : LitList → List LratSaying → List LratSaying → List LratSaying
unended_says Clause broken going = broken
unended_says Values broken going = going

-- after the 0 of a clause's literals its hints come
abbrev pub lits_ended : LitList → Bool → Bool → List LratSaying → List LratSaying → ℕ → ℕ → List LitOf → List Word → List LratSaying
lits_ended Clause done counted broken more place id lits ws = cond done (ids_say Hints counted broken more place id lits [] ws) []
lits_ended Values done counted broken more place id lits ws = cond (done || counted) (IsValuesEnd ∷ after_says more ws) []

-- the words of a list of literals, at most `vars` of them, then 0
abbrev pub lits_say : ℕ → LitList → Bool → List LratSaying → List LratSaying → List LratSaying → ℕ → ℕ → List LitOf → List Word → List LratSaying
lits_say vars kind counted broken going more place id lits [] = unended_says kind broken going
lits_say vars kind counted broken going more place id lits (w ∷ ws) =
    elim (scan vars (leb vars (length lits)) Gap w.text) [
      | Misfit k n ↦ bad k (w.place + n)
      | Reads part ↦ elim part [
        | Gap ↦ lits_say vars kind counted broken going more place id lits ws
        | Minus ↦ cond w.done (bad BadLiteral (w.place + length w.text)) []
        | Zero ↦ lits_ended kind w.done counted broken more place id lits ws
        | Digits l ↦ cond w.done (heard_says kind l ++ lits_say vars kind counted broken going more place id (lits ++ l ∷ []) ws) []
      ]
    ]

-- the other words of a status line claim nothing, but for UNKNOWN alone, once the line or the stream ends
abbrev pub status_says : Bool → List LratSaying → List Word → List LratSaying
status_says counted more ws = cond (is_unknown ws && counted) (IsUnknown ∷ more) more

-- a word that has to be one byte alone
abbrev pub alone : Word → List LratSaying → List LratSaying
alone w said = cond (eqb (length w.text) 1) said (bad BadLine (w.place + 1))

-- after a line's own id: d tells a deletion, all else a clause
abbrev pub named_by : ℕ → Bool → List LratSaying → List LratSaying → ℕ → ℕ → ℕ → Word → List Word → List LratSaying
named_by vars counted broken more place id b w ws =
    cond (eqb b 100) (alone w (ids_say Deletion counted broken more place id [] [] ws)) (lits_say vars Clause counted broken [] more place id [] (w ∷ ws))

abbrev pub named_says : ℕ → Bool → List LratSaying → List LratSaying → ℕ → ℕ → List Word → List LratSaying
named_says vars counted broken more place id [] = broken
named_says vars counted broken more place id (w ∷ ws) = named_by vars counted broken more place id (slice_index w.text 0) w ws

-- a hinted line: its id, then the rest once white space or a line feed follows it
abbrev pub hinted_says : ℕ → Bool → List LratSaying → List LratSaying → Word → List Word → List LratSaying
hinted_says vars counted broken more w ws =
    elim (scan_by own_next 0 w.text) [
      | Misfit k n ↦ bad k (w.place + n)
      | Reads id ↦ cond w.done (named_says vars counted broken more w.place id ws) []
    ]

-- by its first visible byte: s tells a status line, a digit a hinted one
abbrev pub plain_says : ℕ → Bool → List LratSaying → List LratSaying → ℕ → Word → List Word → List LratSaying
plain_says vars counted broken more b w ws =
    cond (eqb b 115) (alone w (status_says counted more ws)) (cond (is_digit b) (hinted_says vars counted broken more w ws) (bad BadLine w.place))

-- c tells a comment, v values; amid values, which lack their 0 so far, no other kind of line may come
abbrev pub visible_says : ℕ → Bool → Bool → List LratSaying → List LratSaying → List LratSaying → ℕ → Word → List Word → List LratSaying
visible_says vars counted amid broken going more b w ws =
    cond (eqb b 99) (cond amid going more)
    (cond (eqb b 118) (alone w (lits_say vars Values counted broken going more w.place 0 [] ws))
    (cond amid (bad BadLine w.place) (plain_says vars counted broken more b w ws)))

-- What the words of a line say, and what is said after it: `going` amid values, else `more`; `broken` where a hinted line isn't whole.
abbrev pub line_says : ℕ → Bool → Bool → List LratSaying → List LratSaying → List LratSaying → List Word → List LratSaying
line_says vars counted amid broken going more [] = cond amid going more
line_says vars counted amid broken going more (w ∷ ws) = visible_says vars counted amid broken going more (slice_index w.text 0) w ws

-- What lines say, the first of which begins with byte number `at`, up to the first fault; line feeds stand between them, and after
-- the last one more bytes or the stream's end.
abbrev pub lines_say : ℕ → Bool → Bool → ℕ → List (List ℕ) → List LratSaying
lines_say vars ended amid at [] = []
lines_say vars ended amid at (t ∷ []) = line_says vars ended amid [] [] [] (words_from false at [] t)
lines_say vars ended amid at (t ∷ u ∷ ts) =
    line_says vars true amid (bad BadLine (at + length t)) (lines_say vars ended true (at + length t + 1) (u ∷ ts)) (lines_say vars ended false (at + length t + 1) (u ∷ ts))
    (words_from true at [] t)

-- what the bytes of a hinted stream over the variables from 1 to `vars` say: where it ends with them, or where more may follow
abbrev pub sayings : ℕ → Bool → List ℕ → List LratSaying
sayings vars ended bytes = lines_say vars ended false 0 (lines_of bytes)
