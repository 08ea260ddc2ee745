-- What the lines of an engine's stream say.
use Rattle.std.specs.Prelude.{ℕ, ◌+◌, Bool, true, false, cond, ◌&&◌, ◌||◌, eqb, leb, List, [], ◌∷◌, ◌++◌, length, slice_index, codes, bytes_eq}
use Rattle.cnf_form.specs.Cnf.{LitOf, ClauseWithin}
use Rattle.cert_stream.specs.Text.{Word, is_digit, lines_of, words_from}
use Rattle.cert_stream.specs.Scan.{Reads, Misfit, scan}
use Rattle.cert_stream.specs.Telling.{Saying, IsClause, IsDelete, IsValue, IsValuesEnd, IsUnknown, IsFault}
use Rattle.cert_stream.specs.declared.mode.ListKind.{ListKind}
use Rattle.cert_stream.specs.declared.mode.ListKind.TheVariants.{Clause as ClauseList, Deletion, Values}
use Rattle.cert_stream.specs.declared.mode.ParseFaultKind.{ParseFaultKind}
use Rattle.cert_stream.specs.declared.mode.ParseFaultKind.TheVariants.{BadLine, BadLiteral}
use Rattle.cert_stream.specs.declared.mode.Part.TheVariants.{Gap, Minus, Zero, Digits}

-- no stream begins with the bytes up to and with this one
abbrev pub bad : ParseFaultKind → ℕ → List Saying
bad kind byte = IsFault (record { kind = kind; byte = byte }) ∷ []

-- what a list says with its 0
abbrev pub ended_says : ListKind → ℕ → List LitOf → Saying
ended_says ClauseList place lits = IsClause lits place
ended_says Deletion place lits = IsDelete lits
ended_says Values place lits = IsValuesEnd

-- what one of its literals says by itself
abbrev pub heard_says : ListKind → LitOf → List Saying
heard_says ClauseList l = []
heard_says Deletion l = []
heard_says Values l = IsValue l ∷ []

-- what is said where a line ends without a 0: values may go on in another line, all else is broken
abbrev pub unended_says : ListKind → List Saying → List Saying → List Saying
unended_says ClauseList broken going = broken
unended_says Deletion broken going = broken
unended_says Values broken going = going

-- after the 0 only white space may stand in its line
abbrev pub after_says : List Saying → List Word → List Saying
after_says more [] = more
after_says more (w ∷ ws) = bad BadLine w.place

-- The words of a list whose line has its first visible byte at `place`: at most `vars` literals, of which it has `lits` so far,
-- then 0. A literal counts once white space or a line feed follows it, a 0 also where the stream ends, which `counted` tells.
-- `unended` is said where the words end without a 0, `more` after a line that has it.
abbrev pub list_says : ℕ → ListKind → Bool → List Saying → List Saying → ℕ → List LitOf → List Word → List Saying
list_says vars kind counted unended more place lits [] = unended
list_says vars kind counted unended more place lits (w ∷ ws) =
    elim (scan vars (leb vars (length lits)) Gap w.text) [
      | Misfit k n ↦ bad k (w.place + n)
      | Reads part ↦ elim part [
        | Gap ↦ list_says vars kind counted unended more place lits ws
        | Minus ↦ cond w.done (bad BadLiteral (w.place + length w.text)) []
        | Zero ↦ cond (w.done || counted) (ended_says kind place lits ∷ after_says more ws) []
        | Digits l ↦ cond w.done (heard_says kind l ++ list_says vars kind counted unended more place (lits ++ l ∷ []) ws) []
      ]
    ]

-- the word UNKNOWN alone
abbrev pub is_unknown : List Word → Bool
is_unknown [] = false
is_unknown (w ∷ []) = bytes_eq w.text (codes "UNKNOWN")
is_unknown (w ∷ v ∷ ws) = false

-- the other words of a status line claim nothing, but for UNKNOWN alone, once the line or the stream ends
abbrev pub status_says : Bool → List Saying → List Word → List Saying
status_says counted more ws = cond (is_unknown ws && counted) (IsUnknown ∷ more) more

-- a first word that has to be one byte alone
abbrev pub alone : Word → List Saying → List Saying
alone w said = cond (eqb (length w.text) 1) said (bad BadLine (w.place + 1))

-- by its first visible byte: s tells a status line, d a deletion, - or a digit a clause
abbrev pub plain_says : ℕ → Bool → List Saying → List Saying → ℕ → Word → List Word → List Saying
plain_says vars counted broken more b w ws =
    cond (eqb b 115) (alone w (status_says counted more ws))
    (cond (eqb b 100) (alone w (list_says vars Deletion counted broken more w.place [] ws))
    (cond (eqb b 45 || is_digit b) (list_says vars ClauseList counted broken more w.place [] (w ∷ ws)) (bad BadLine w.place)))

-- c tells a comment, v values; amid values, which lack their 0 so far, no other kind of line may come
abbrev pub visible_says : ℕ → Bool → Bool → List Saying → List Saying → List Saying → ℕ → Word → List Word → List Saying
visible_says vars counted amid broken going more b w ws =
    cond (eqb b 99) (cond amid going more)
    (cond (eqb b 118) (alone w (list_says vars Values counted going more w.place [] ws))
    (cond amid (bad BadLine w.place) (plain_says vars counted broken more b w ws)))

-- What the words of a line say, and what is said after it: `going` amid values, else `more`; `broken` where a clause or deletion lacks its 0.
abbrev pub line_says : ℕ → Bool → Bool → List Saying → List Saying → List Saying → List Word → List Saying
line_says vars counted amid broken going more [] = cond amid going more
line_says vars counted amid broken going more (w ∷ ws) = visible_says vars counted amid broken going more (slice_index w.text 0) w ws

-- What lines say, the first of which begins with byte number `at`, up to the first fault; line feeds stand between them, and after
-- the last one more bytes or the stream's end.
abbrev pub lines_say : ℕ → Bool → Bool → ℕ → List (List ℕ) → List Saying
lines_say vars ended amid at [] = []
lines_say vars ended amid at (t ∷ []) = line_says vars ended amid [] [] [] (words_from false at [] t)
lines_say vars ended amid at (t ∷ u ∷ ts) =
    line_says vars true amid (bad BadLine (at + length t)) (lines_say vars ended true (at + length t + 1) (u ∷ ts)) (lines_say vars ended false (at + length t + 1) (u ∷ ts))
    (words_from true at [] t)

-- what the bytes of a stream over the variables from 1 to `vars` say: where it ends with them, or where more may follow
abbrev pub sayings : ℕ → Bool → List ℕ → List Saying
sayings vars ended bytes = lines_say vars ended false 0 (lines_of bytes)

abbrev pub lits_of : Saying → List LitOf
lits_of (IsClause lits place) = lits
lits_of (IsDelete lits) = lits
lits_of (IsValue l) = l ∷ []
lits_of IsValuesEnd = []
lits_of IsUnknown = []
lits_of (IsFault f) = []

-- each literal has a variable from 1 to `vars`
abbrev pub AreWithin : ℕ → List Saying → Type 0
AreWithin vars [] = Unit {0}
AreWithin vars (s ∷ ss) = ClauseWithin vars (lits_of s) × AreWithin vars ss
