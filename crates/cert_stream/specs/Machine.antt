-- What each byte of a stream does to the little that is kept of the bytes before it.
use Rattle.std.specs.Prelude.{ℕ, ◌+◌, ◌*◌, ◌-◌, Bool, true, false, cond, not, ◌&&◌, ◌||◌, eqb, leb, List, [], ◌∷◌, ◌++◌, length, Option, Some, None}
use Rattle.cnf_form.specs.Cnf.{LitOf, LitWithin}
use Rattle.cert_stream.specs.Text.{is_blank, is_digit}
use Rattle.cert_stream.specs.declared.mode.ListKind.{ListKind}
use Rattle.cert_stream.specs.declared.mode.ListKind.TheVariants.{Clause as ClauseList, Deletion, Values}
use Rattle.cert_stream.specs.declared.mode.ParseFaultKind.{ParseFaultKind}
use Rattle.cert_stream.specs.declared.mode.ParseFaultKind.TheVariants.{BadLine, BadLiteral, LineTooLong}
use Rattle.cert_stream.specs.declared.mode.ParseFault.{ParseFault}
use Rattle.cert_stream.specs.declared.mode.Part.{Part}
use Rattle.cert_stream.specs.declared.mode.Part.TheVariants.{Gap, Minus, Zero, Digits}
use Rattle.cert_stream.specs.declared.mode.Mode.{Mode}
use Rattle.cert_stream.specs.declared.mode.Mode.TheVariants.{Start, Skip, Head, StatusHead, StatusGap, Spelled, Whole, InList, Closed, Bad, Lost}
use Rattle.cert_stream.specs.declared.mode.Event.{Event}
use Rattle.cert_stream.specs.declared.mode.Event.TheVariants.{Clause, Delete, Value, ValuesEnd, Unknown}

-- what is kept: how many bytes were taken, where the line's first visible byte stands, how its reading stands, its literals so far
pub record DrupOf : Type 0 where
  pub vars : ℕ
  pub taken : ℕ
  pub place : ℕ
  pub mode : Mode
  pub lits : List LitOf

-- what a byte makes of it, and what is said then
pub record Turn : Type 0 where
  pub to : DrupOf
  pub event : Option Event

abbrev pub quiet : DrupOf → Mode → Turn
quiet w m = record { to = record w { mode = m }; event = None }

abbrev pub telling : DrupOf → Mode → Event → Turn
telling w m e = record { to = record w { mode = m }; event = Some e }

-- no stream goes on with the byte
abbrev pub fails : DrupOf → ParseFaultKind → Turn
fails w kind = quiet w (Bad (record { kind = kind; byte = w.taken }))

-- what a list says with its 0
abbrev pub ended : ListKind → Event
ended ClauseList = Clause
ended Deletion = Delete
ended Values = ValuesEnd

-- what a literal says once its word has ended
abbrev pub heard : ListKind → LitOf → Option Event
heard ClauseList l = None
heard Deletion l = None
heard Values l = Some (Value l)

-- white space or a line feed after a part of a word of a list
abbrev pub end_part : DrupOf → ListKind → Part → Turn
end_part w kind Gap = quiet w (InList kind Gap)
end_part w kind Minus = fails w BadLiteral
end_part w kind Zero = telling w Closed (ended kind)
end_part w kind (Digits l) = record { to = record w { mode = InList kind Gap; lits = w.lits ++ l ∷ [] }; event = heard kind l }

-- white space or a line feed after whatever was read
abbrev pub end_word : DrupOf → Mode → Turn
end_word w (Start amid) = quiet w (Start amid)
end_word w (Skip amid) = quiet w (Skip amid)
end_word w (Head kind) = quiet w (InList kind Gap)
end_word w StatusHead = quiet w StatusGap
end_word w StatusGap = quiet w StatusGap
end_word w (Spelled n) = quiet w (cond (eqb n 7) Whole (Skip false))
end_word w Whole = quiet w Whole
end_word w (InList kind part) = end_part w kind part
end_word w Closed = quiet w Closed
end_word w (Bad f) = quiet w (Bad f)
end_word w Lost = quiet w Lost

-- a line feed, after white space: only values may go on in another line
abbrev pub unended : DrupOf → ListKind → Turn
unended w ClauseList = fails w BadLine
unended w Deletion = fails w BadLine
unended w Values = quiet w (Start true)

abbrev pub end_line : DrupOf → Mode → Turn
end_line w (Start amid) = quiet w (Start amid)
end_line w (Skip amid) = quiet w (Start amid)
end_line w (Head kind) = unended w kind
end_line w StatusHead = quiet w (Start false)
end_line w StatusGap = quiet w (Start false)
end_line w (Spelled n) = quiet w (Start false)
end_line w Whole = telling w (Start false) Unknown
end_line w (InList kind part) = unended w kind
end_line w Closed = quiet w (Start false)
end_line w (Bad f) = quiet w (Bad f)
end_line w Lost = quiet w Lost

abbrev pub first_of_both : Option Event → Option Event → Option Event
first_of_both None e = e
first_of_both (Some d) e = Some d

abbrev pub feed_after : Turn → Turn
feed_after t = record { to = (end_line t.to t.to.mode).to; event = first_of_both t.event (end_line t.to t.to.mode).event }

-- the number that the digits before it and this digit write, where it is one of a variable
abbrev pub with_digit : ℕ → ℕ → ℕ
with_digit n b = 10 * n + (b - 48)

abbrev pub goes_on : ℕ → ℕ → ℕ → Bool
goes_on vars n b = is_digit b && leb 1 (with_digit n b) && leb (with_digit n b) vars

abbrev pub literal : ℕ → Bool → LitOf
literal n negated = record { var = n; negated = negated }

abbrev pub begins_literal : ℕ → ℕ → Bool
begins_literal vars b = (eqb b 45 && leb 1 vars) || goes_on vars 0 b

-- digits after a number, with its sign
abbrev pub visible_digit : DrupOf → ListKind → Bool → ℕ → ℕ → Turn
visible_digit w kind negated n b = cond (goes_on w.vars n b) (quiet w (InList kind (Digits (literal (with_digit n b) negated)))) (fails w BadLiteral)

-- the first byte of a word of a list
abbrev pub visible_first : DrupOf → ListKind → ℕ → Turn
visible_first w kind b =
    cond (eqb b 48) (quiet w (InList kind Zero))
    (cond (not (begins_literal w.vars b)) (fails w BadLiteral)
    (cond (leb w.vars (length w.lits)) (fails w LineTooLong)
    (cond (eqb b 45) (quiet w (InList kind Minus)) (visible_digit w kind false 0 b))))

abbrev pub visible_part : DrupOf → ListKind → Part → ℕ → Turn
visible_part w kind Gap b = visible_first w kind b
visible_part w kind Minus b = visible_digit w kind true 0 b
visible_part w kind Zero b = fails w BadLiteral
visible_part w kind (Digits l) b = visible_digit w kind l.negated l.var b

-- the first visible byte of a line
abbrev pub emptied : DrupOf → DrupOf
emptied w = record w { place = w.taken; lits = [] }

abbrev pub visible_plain : DrupOf → ℕ → Turn
visible_plain w b =
    cond (eqb b 115) (quiet w StatusHead)
    (cond (eqb b 100) (quiet w (Head Deletion))
    (cond (eqb b 45 || is_digit b) (visible_first w ClauseList b) (fails w BadLine)))

abbrev pub visible_start : DrupOf → Bool → ℕ → Turn
visible_start w amid b =
    cond (eqb b 99) (quiet w (Skip amid))
    (cond (eqb b 118) (quiet w (Head Values))
    (cond amid (fails w BadLine) (visible_plain w b)))

-- UNKNOWN
abbrev pub spelling : ℕ → ℕ
spelling n =
    cond (eqb n 0) 85 (cond (eqb n 1) 78 (cond (eqb n 2) 75 (cond (eqb n 3) 78 (cond (eqb n 4) 79 (cond (eqb n 5) 87 (cond (eqb n 6) 78 0))))))

abbrev pub visible_spelled : DrupOf → ℕ → ℕ → Turn
visible_spelled w n b = quiet w (cond (not (leb 7 n) && eqb b (spelling n)) (Spelled (n + 1)) (Skip false))

-- a byte that is no white space and no line feed
abbrev pub visible : DrupOf → Mode → ℕ → Turn
visible w (Start amid) b = visible_start (emptied w) amid b
visible w (Skip amid) b = quiet w (Skip amid)
visible w (Head kind) b = fails w BadLine
visible w StatusHead b = fails w BadLine
visible w StatusGap b = visible_spelled w 0 b
visible w (Spelled n) b = visible_spelled w n b
visible w Whole b = quiet w (Skip false)
visible w (InList kind part) b = visible_part w kind part b
visible w Closed b = fails w BadLine
visible w (Bad f) b = quiet w (Bad f)
visible w Lost b = quiet w Lost

abbrev pub read : DrupOf → ℕ → Turn
read w b = cond (eqb b 10) (feed_after (end_word w w.mode)) (cond (is_blank b) (end_word w w.mode) (visible w w.mode b))

abbrev pub counted : ℕ → Turn → Turn
counted taken t = record { to = record t.to { taken = taken + 1 }; event = t.event }

-- a byte
abbrev pub turn : DrupOf → ℕ → Turn
turn w b = counted w.taken (read w b)

-- what a 0, or UNKNOWN, says that the stream's end follows
abbrev pub at_end_part : ListKind → Part → Option Event
at_end_part kind Gap = None
at_end_part kind Minus = None
at_end_part kind Zero = Some (ended kind)
at_end_part kind (Digits l) = None

abbrev pub at_end : Mode → Option Event
at_end (Start amid) = None
at_end (Skip amid) = None
at_end (Head kind) = None
at_end StatusHead = None
at_end StatusGap = None
at_end (Spelled n) = cond (eqb n 7) (Some Unknown) None
at_end Whole = Some Unknown
at_end (InList kind part) = at_end_part kind part
at_end Closed = None
at_end (Bad f) = None
at_end Lost = None

-- a literal has begun, for which its end takes memory
abbrev pub is_literal_part : Part → Bool
is_literal_part Gap = false
is_literal_part Minus = false
is_literal_part Zero = false
is_literal_part (Digits l) = true

abbrev pub is_in_literal : Mode → Bool
is_in_literal (Start amid) = false
is_in_literal (Skip amid) = false
is_in_literal (Head kind) = false
is_in_literal StatusHead = false
is_in_literal StatusGap = false
is_in_literal (Spelled n) = false
is_in_literal Whole = false
is_in_literal (InList kind part) = is_literal_part part
is_in_literal Closed = false
is_in_literal (Bad f) = false
is_in_literal Lost = false

-- where no stream goes on
abbrev pub fault_of : Mode → Option ParseFault
fault_of (Start amid) = None
fault_of (Skip amid) = None
fault_of (Head kind) = None
fault_of StatusHead = None
fault_of StatusGap = None
fault_of (Spelled n) = None
fault_of Whole = None
fault_of (InList kind part) = None
fault_of Closed = None
fault_of (Bad f) = Some f
fault_of Lost = None

-- a literal that was read has a variable from 1 to `vars`
abbrev pub IsPartWithin : ℕ → Part → Type 0
IsPartWithin vars Gap = Unit {0}
IsPartWithin vars Minus = Unit {0}
IsPartWithin vars Zero = Unit {0}
IsPartWithin vars (Digits l) = LitWithin vars l

abbrev pub IsModeWithin : ℕ → Mode → Type 0
IsModeWithin vars (Start amid) = Unit {0}
IsModeWithin vars (Skip amid) = Unit {0}
IsModeWithin vars (Head kind) = Unit {0}
IsModeWithin vars StatusHead = Unit {0}
IsModeWithin vars StatusGap = Unit {0}
IsModeWithin vars (Spelled n) = Unit {0}
IsModeWithin vars Whole = Unit {0}
IsModeWithin vars (InList kind part) = IsPartWithin vars part
IsModeWithin vars Closed = Unit {0}
IsModeWithin vars (Bad f) = Unit {0}
IsModeWithin vars Lost = Unit {0}

abbrev pub IsEventWithin : ℕ → Option Event → Type 0
IsEventWithin vars None = Unit {0}
IsEventWithin vars (Some Clause) = Unit {0}
IsEventWithin vars (Some Delete) = Unit {0}
IsEventWithin vars (Some (Value l)) = LitWithin vars l
IsEventWithin vars (Some ValuesEnd) = Unit {0}
IsEventWithin vars (Some Unknown) = Unit {0}
