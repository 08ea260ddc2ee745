-- What each byte of a hinted stream does to the little that is kept of the bytes before it.
use Rattle.std.specs.Prelude.{ℕ, ◌+◌, ◌-◌, ◌^◌, ◌≤◌, Bool, true, false, cond, not, ◌&&◌, ◌||◌, eqb, leb, List, [], ◌∷◌, ◌++◌, length, Option, Some, None}
use Rattle.cnf_form.specs.Cnf.{LitOf}
use Rattle.cert_stream.specs.Text.{is_blank, is_digit}
use Rattle.cert_stream.specs.Machine.{IsPartWithin, begins_literal, first_of_both, goes_on, is_literal_part, literal, spelling, with_digit}
use Rattle.cert_stream.specs.declared.mode.ParseFaultKind.{ParseFaultKind}
use Rattle.cert_stream.specs.declared.mode.ParseFaultKind.TheVariants.{BadLine, BadLiteral, LineTooLong}
use Rattle.cert_stream.specs.declared.mode.ParseFault.{ParseFault}
use Rattle.cert_stream.specs.declared.mode.Part.{Part}
use Rattle.cert_stream.specs.declared.mode.Part.TheVariants.{Gap, Minus, Zero, Digits}
use Rattle.cert_stream.specs.declared.mode.Event.{Event}
use Rattle.cert_stream.specs.declared.mode.Event.TheVariants.{Clause, Delete, Value, ValuesEnd, Unknown}
use Rattle.cert_stream.specs.declared.lrat.mode.Hint.{Hint}
use Rattle.cert_stream.specs.declared.lrat.mode.LitList.{LitList}
use Rattle.cert_stream.specs.declared.lrat.mode.LitList.TheVariants.{Clause as ClauseList, Values}
use Rattle.cert_stream.specs.declared.lrat.mode.IdList.{IdList}
use Rattle.cert_stream.specs.declared.lrat.mode.IdList.TheVariants.{Hints, Deletion}
use Rattle.cert_stream.specs.declared.lrat.mode.IdPart.{IdPart}
use Rattle.cert_stream.specs.declared.lrat.mode.IdPart.TheVariants.{Gap as IdGap, Minus as IdMinus, Zero as IdZero, Digits as IdDigits}
use Rattle.cert_stream.specs.declared.lrat.mode.Mode.{Mode}
use Rattle.cert_stream.specs.declared.lrat.mode.Mode.TheVariants.{Start, Skip, ValuesHead, StatusHead, StatusGap, Spelled, Whole, InId, AfterId, DeletionHead, InLits, InIds, Closed, Bad}

-- the greatest id, and the greatest number of hints or of deleted ids in a line
abbrev pub most_id : ℕ
most_id = 2 ^ 63 - 1

abbrev pub most_hints : ℕ
most_hints = 2 ^ 27

-- what is kept: how many bytes were taken, where the line's first visible byte stands, how its reading stands, its own id, its literals and
-- hints so far
pub record LratOf : Type 0 where
  pub vars : ℕ
  pub taken : ℕ
  pub place : ℕ
  pub mode : Mode
  pub id : ℕ
  pub lits : List LitOf
  pub hints : List Hint

-- what a byte makes of it, and what is said then
pub record Turn : Type 0 where
  pub to : LratOf
  pub event : Option Event

abbrev pub quiet : LratOf → Mode → Turn
quiet w m = record { to = record w { mode = m }; event = None }

abbrev pub telling : LratOf → Mode → Event → Turn
telling w m e = record { to = record w { mode = m }; event = Some e }

-- no stream goes on with the byte
abbrev pub fails : LratOf → ParseFaultKind → Turn
fails w kind = quiet w (Bad (record { kind = kind; byte = w.taken }))

-- a clause's literals are ended by 0, and its hints come; values are at their end
abbrev pub lits_ended : LratOf → LitList → Turn
lits_ended w ClauseList = quiet w (InIds Hints IdGap)
lits_ended w Values = telling w Closed ValuesEnd

-- what a literal says once its word has ended
abbrev pub heard : LitList → LitOf → Option Event
heard ClauseList l = None
heard Values l = Some (Value l)

-- what a list of ids says with its 0
abbrev pub ended : IdList → Event
ended Hints = Clause
ended Deletion = Delete

-- white space or a line feed after a part of a word of a list
abbrev pub end_part : LratOf → LitList → Part → Turn
end_part w kind Gap = quiet w (InLits kind Gap)
end_part w kind Minus = fails w BadLiteral
end_part w kind Zero = lits_ended w kind
end_part w kind (Digits l) = record { to = record w { mode = InLits kind Gap; lits = w.lits ++ l ∷ [] }; event = heard kind l }

abbrev pub end_id_part : LratOf → IdList → IdPart → Turn
end_id_part w kind IdGap = quiet w (InIds kind IdGap)
end_id_part w kind (IdMinus place) = fails w BadLiteral
end_id_part w kind IdZero = telling w Closed (ended kind)
end_id_part w kind (IdDigits h) = record { to = record w { mode = InIds kind IdGap; hints = w.hints ++ h ∷ [] }; event = None }

-- white space or a line feed after whatever was read
abbrev pub end_word : LratOf → Mode → Turn
end_word w (Start amid) = quiet w (Start amid)
end_word w (Skip amid) = quiet w (Skip amid)
end_word w ValuesHead = quiet w (InLits Values Gap)
end_word w StatusHead = quiet w StatusGap
end_word w StatusGap = quiet w StatusGap
end_word w (Spelled n) = quiet w (cond (eqb n 7) Whole (Skip false))
end_word w Whole = quiet w Whole
end_word w (InId n) = record { to = record w { mode = AfterId; id = n }; event = None }
end_word w AfterId = quiet w AfterId
end_word w DeletionHead = quiet w (InIds Deletion IdGap)
end_word w (InLits kind part) = end_part w kind part
end_word w (InIds kind part) = end_id_part w kind part
end_word w Closed = quiet w Closed
end_word w (Bad f) = quiet w (Bad f)

-- a line feed, after white space: only values may go on in another line
abbrev pub unended : LratOf → LitList → Turn
unended w ClauseList = fails w BadLine
unended w Values = quiet w (Start true)

abbrev pub end_line : LratOf → Mode → Turn
end_line w (Start amid) = quiet w (Start amid)
end_line w (Skip amid) = quiet w (Start amid)
end_line w ValuesHead = quiet w (Start true)
end_line w StatusHead = quiet w (Start false)
end_line w StatusGap = quiet w (Start false)
end_line w (Spelled n) = quiet w (Start false)
end_line w Whole = telling w (Start false) Unknown
end_line w (InId n) = fails w BadLine
end_line w AfterId = fails w BadLine
end_line w DeletionHead = fails w BadLine
end_line w (InLits kind part) = unended w kind
end_line w (InIds kind part) = fails w BadLine
end_line w Closed = quiet w (Start false)
end_line w (Bad f) = quiet w (Bad f)

abbrev pub feed_after : Turn → Turn
feed_after t = record { to = (end_line t.to t.to.mode).to; event = first_of_both t.event (end_line t.to t.to.mode).event }

-- digits after a number, with its sign
abbrev pub visible_digit : LratOf → LitList → Bool → ℕ → ℕ → Turn
visible_digit w kind negated n b = cond (goes_on w.vars n b) (quiet w (InLits kind (Digits (literal (with_digit n b) negated)))) (fails w BadLiteral)

-- the first byte of a word of a list of literals
abbrev pub visible_first : LratOf → LitList → ℕ → Turn
visible_first w kind b =
    cond (eqb b 48) (quiet w (InLits kind Zero))
    (cond (not (begins_literal w.vars b)) (fails w BadLiteral)
    (cond (leb w.vars (length w.lits)) (fails w LineTooLong)
    (cond (eqb b 45) (quiet w (InLits kind Minus)) (visible_digit w kind false 0 b))))

abbrev pub visible_part : LratOf → LitList → Part → ℕ → Turn
visible_part w kind Gap b = visible_first w kind b
visible_part w kind Minus b = visible_digit w kind true 0 b
visible_part w kind Zero b = fails w BadLiteral
visible_part w kind (Digits l) b = visible_digit w kind l.negated l.var b

-- a digit more makes an id
abbrev pub id_goes_on : ℕ → ℕ → Bool
id_goes_on n b = goes_on most_id n b

abbrev pub hint : ℕ → Bool → ℕ → Hint
hint n negated place = record { id = n; negated = negated; place = place }

abbrev pub id_digit : LratOf → IdList → Bool → ℕ → ℕ → ℕ → Turn
id_digit w kind negated place n b = cond (id_goes_on n b) (quiet w (InIds kind (IdDigits (hint (with_digit n b) negated place)))) (fails w BadLiteral)

-- a hint may have a minus, which is left to its reader
abbrev pub takes_minus : IdList → Bool
takes_minus Hints = true
takes_minus Deletion = false

abbrev pub begins_id : IdList → ℕ → Bool
begins_id kind b = (eqb b 45 && takes_minus kind) || id_goes_on 0 b

-- the first byte of a word of a list of ids
abbrev pub id_first : LratOf → IdList → ℕ → Turn
id_first w kind b =
    cond (eqb b 48) (quiet w (InIds kind IdZero))
    (cond (not (begins_id kind b)) (fails w BadLiteral)
    (cond (leb most_hints (length w.hints)) (fails w LineTooLong)
    (cond (eqb b 45) (quiet w (InIds kind (IdMinus w.taken))) (id_digit w kind false w.taken 0 b))))

abbrev pub id_part : LratOf → IdList → IdPart → ℕ → Turn
id_part w kind IdGap b = id_first w kind b
id_part w kind (IdMinus place) b = id_digit w kind true place 0 b
id_part w kind IdZero b = fails w BadLiteral
id_part w kind (IdDigits h) b = id_digit w kind h.negated h.place h.id b

-- the line's own id
abbrev pub own_digit : LratOf → ℕ → ℕ → Turn
own_digit w n b = cond (id_goes_on n b) (quiet w (InId (with_digit n b))) (fails w BadLiteral)

-- after it, d tells a deletion
abbrev pub visible_after_id : LratOf → ℕ → Turn
visible_after_id w b = cond (eqb b 100) (quiet w DeletionHead) (visible_first w ClauseList b)

-- the first visible byte of a line
abbrev pub emptied : LratOf → LratOf
emptied w = record w { place = w.taken; id = 0; lits = []; hints = [] }

abbrev pub visible_plain : LratOf → ℕ → Turn
visible_plain w b = cond (eqb b 115) (quiet w StatusHead) (cond (is_digit b) (own_digit w 0 b) (fails w BadLine))

abbrev pub visible_start : LratOf → Bool → ℕ → Turn
visible_start w amid b =
    cond (eqb b 99) (quiet w (Skip amid))
    (cond (eqb b 118) (quiet w ValuesHead)
    (cond amid (fails w BadLine) (visible_plain w b)))

abbrev pub visible_spelled : LratOf → ℕ → ℕ → Turn
visible_spelled w n b = quiet w (cond (not (leb 7 n) && eqb b (spelling n)) (Spelled (n + 1)) (Skip false))

-- a byte that is no white space and no line feed
abbrev pub visible : LratOf → Mode → ℕ → Turn
visible w (Start amid) b = visible_start (emptied w) amid b
visible w (Skip amid) b = quiet w (Skip amid)
visible w ValuesHead b = fails w BadLine
visible w StatusHead b = fails w BadLine
visible w StatusGap b = visible_spelled w 0 b
visible w (Spelled n) b = visible_spelled w n b
visible w Whole b = quiet w (Skip false)
visible w (InId n) b = own_digit w n b
visible w AfterId b = visible_after_id w b
visible w DeletionHead b = fails w BadLine
visible w (InLits kind part) b = visible_part w kind part b
visible w (InIds kind part) b = id_part w kind part b
visible w Closed b = fails w BadLine
visible w (Bad f) b = quiet w (Bad f)

abbrev pub read : LratOf → ℕ → Turn
read w b = cond (eqb b 10) (feed_after (end_word w w.mode)) (cond (is_blank b) (end_word w w.mode) (visible w w.mode b))

abbrev pub counted : ℕ → Turn → Turn
counted taken t = record { to = record t.to { taken = taken + 1 }; event = t.event }

-- a byte
abbrev pub turn : LratOf → ℕ → Turn
turn w b = counted w.taken (read w b)

-- what a 0, or UNKNOWN, says that the stream's end follows; a clause's hints are missing then
abbrev pub at_end_lits : LitList → Part → Option Event
at_end_lits ClauseList part = None
at_end_lits Values Gap = None
at_end_lits Values Minus = None
at_end_lits Values Zero = Some ValuesEnd
at_end_lits Values (Digits l) = None

abbrev pub at_end_ids : IdList → IdPart → Option Event
at_end_ids kind IdGap = None
at_end_ids kind (IdMinus place) = None
at_end_ids kind IdZero = Some (ended kind)
at_end_ids kind (IdDigits h) = None

abbrev pub at_end : Mode → Option Event
at_end (Start amid) = None
at_end (Skip amid) = None
at_end ValuesHead = None
at_end StatusHead = None
at_end StatusGap = None
at_end (Spelled n) = cond (eqb n 7) (Some Unknown) None
at_end Whole = Some Unknown
at_end (InId n) = None
at_end AfterId = None
at_end DeletionHead = None
at_end (InLits kind part) = at_end_lits kind part
at_end (InIds kind part) = at_end_ids kind part
at_end Closed = None
at_end (Bad f) = None

-- a number was read of a list: a literal, an id or a hint
abbrev pub is_id_number : IdPart → Bool
is_id_number IdGap = false
is_id_number (IdMinus place) = false
is_id_number IdZero = false
is_id_number (IdDigits h) = true

abbrev pub is_in_number : Mode → Bool
is_in_number (Start amid) = false
is_in_number (Skip amid) = false
is_in_number ValuesHead = false
is_in_number StatusHead = false
is_in_number StatusGap = false
is_in_number (Spelled n) = false
is_in_number Whole = false
is_in_number (InId n) = false
is_in_number AfterId = false
is_in_number DeletionHead = false
is_in_number (InLits kind part) = is_literal_part part
is_in_number (InIds kind part) = is_id_number part
is_in_number Closed = false
is_in_number (Bad f) = false

-- where no stream goes on
abbrev pub fault_of : Mode → Option ParseFault
fault_of (Start amid) = None
fault_of (Skip amid) = None
fault_of ValuesHead = None
fault_of StatusHead = None
fault_of StatusGap = None
fault_of (Spelled n) = None
fault_of Whole = None
fault_of (InId n) = None
fault_of AfterId = None
fault_of DeletionHead = None
fault_of (InLits kind part) = None
fault_of (InIds kind part) = None
fault_of Closed = None
fault_of (Bad f) = Some f

-- a literal that was read has a variable from 1 to `vars`, and an id is at most the greatest one
abbrev pub IsIdPartWithin : IdPart → Type 0
IsIdPartWithin IdGap = Unit {0}
IsIdPartWithin (IdMinus place) = Unit {0}
IsIdPartWithin IdZero = Unit {0}
IsIdPartWithin (IdDigits h) = h.id ≤ most_id

abbrev pub IsModeWithin : ℕ → Mode → Type 0
IsModeWithin vars (Start amid) = Unit {0}
IsModeWithin vars (Skip amid) = Unit {0}
IsModeWithin vars ValuesHead = Unit {0}
IsModeWithin vars StatusHead = Unit {0}
IsModeWithin vars StatusGap = Unit {0}
IsModeWithin vars (Spelled n) = Unit {0}
IsModeWithin vars Whole = Unit {0}
IsModeWithin vars (InId n) = n ≤ most_id
IsModeWithin vars AfterId = Unit {0}
IsModeWithin vars DeletionHead = Unit {0}
IsModeWithin vars (InLits kind part) = IsPartWithin vars part
IsModeWithin vars (InIds kind part) = IsIdPartWithin part
IsModeWithin vars Closed = Unit {0}
IsModeWithin vars (Bad f) = Unit {0}
