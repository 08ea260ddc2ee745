-- What each byte of a stream does to the little that is kept of the bytes before it.
use Rattle.std.specs.Prelude.{ℕ, ◌+◌, Bool, cond, ◌&&◌, ◌||◌, eqb, leb, List, [], ◌∷◌, ◌++◌, map, Option, Some, None}
use Rattle.cert_stream.specs.Machine.{DrupOf, fault_of}
use Rattle.cert_stream.specs.Telling as drup
use Rattle.cert_stream.specs.Telling.{Saying}
use Rattle.cert_stream.specs.Text.{is_blank, is_digit}
use Rattle.cert_stream.specs.declared.mode.ParseFault.{ParseFault}
use Rattle.cert_stream.specs.declared.mode.ParseFaultKind.TheVariants.{BadLine}
use Rattle.inv_stream.specs.Spelling.{grown, is_next, named, place_of}
use Rattle.inv_stream.specs.declared.mode.InvFault.{InvFault}
use Rattle.inv_stream.specs.declared.mode.InvFaultKind.{InvFaultKind}
use Rattle.inv_stream.specs.declared.mode.InvFaultKind.TheVariants.{BadPart, Parse}
use Rattle.inv_stream.specs.declared.mode.Line.{Line}
use Rattle.inv_stream.specs.declared.mode.Line.TheVariants.{Start, Letter, Word, Named, Inside, Refused, Lost}
use Rattle.inv_stream.specs.declared.mode.Part.{Part}
use Rattle.inv_stream.specs.declared.mode.Spell.{Spell}
use Rattle.inv_stream.specs.declared.mode.Spell.TheVariants.{I, S}

-- what a receiver gets: the word of the next part, with its place, and what lines of DRUP text say; and the fault
pub data InvSaying : Type 0 where
  IsNext : ℕ → InvSaying
  Says : Saying → InvSaying
  IsFault : InvFault → InvSaying

-- What is kept: what a stream of DRUP text keeps that has white space where parts have their words, the part, how the line's reading stands, and
-- where its first visible byte does.
pub record InvOf : Type 0 where
  pub parser : DrupOf
  pub part : Part
  pub line : Line
  pub place : ℕ

-- what a byte makes of it, and what is said then
pub record Turn : Type 0 where
  pub to : InvOf
  pub says : List InvSaying

abbrev pub is_space : ℕ → Bool
is_space b = eqb b 10 || is_blank b

-- bytes for the lines of DRUP text
abbrev pub passes : InvOf → List ℕ → Line → Turn
passes w bytes line = record { to = record w { parser = drup.after w.parser bytes; line = line }; says = map Says (drup.said w.parser bytes) }

-- no stream goes on so
abbrev pub refuses : InvOf → InvFaultKind → ℕ → Turn
refuses w kind byte = record { to = record w { line = Refused (record { kind = kind; byte = byte }) }; says = [] }

-- the line of DRUP text ends with a line feed, if there is no fault
abbrev pub line_after : Option ParseFault → ℕ → Line
line_after None b = cond (eqb b 10) Start Inside
line_after (Some f) b = Inside

-- the last of some bytes for such a line
abbrev pub reads : InvOf → List ℕ → ℕ → Turn
reads w bytes b = passes w bytes (line_after (fault_of (drup.after w.parser bytes).mode) b)

-- clauses and deletions come before no proof
abbrev pub is_early : Part → ℕ → Bool
is_early part b = eqb b 100 && leb (place_of part) 1

abbrev pub is_clause : ℕ → Bool
is_clause b = eqb b 45 || is_digit b

-- the first visible byte of a line
abbrev pub placed : InvOf → InvOf
placed w = record w { place = w.parser.taken }

abbrev pub begins : InvOf → ℕ → Turn
begins w b =
    cond (eqb b 105) (passes w (32 ∷ []) (Word I))
    (cond (eqb b 115) (record { to = record w { line = Letter }; says = [] })
    (cond (eqb b 118 || is_early w.part b) (refuses w (Parse BadLine) w.place)
    (cond (is_clause b && eqb (place_of w.part) 0) (refuses w BadPart w.place) (reads w (b ∷ []) b))))

-- one letter more of a part's word, after bytes that are white space to the lines of DRUP text
abbrev pub grows : InvOf → List ℕ → Option Spell → ℕ → Turn
grows w blanks None byte = refuses w (Parse BadLine) byte
grows w blanks (Some s) byte = passes w blanks (Word s)

-- white space or a line feed after the next part's word
abbrev pub goes_on : InvOf → Part → ℕ → Turn
goes_on w part b =
    cond (eqb b 10)
    (record { to = record w { parser = drup.after w.parser (b ∷ []); part = part; line = Start }; says = map Says (drup.said w.parser (b ∷ [])) ++ IsNext w.place ∷ [] })
    (record { to = record w { parser = drup.after w.parser (b ∷ []); line = Named part }; says = map Says (drup.said w.parser (b ∷ [])) })

-- and after what was read of a word
abbrev pub ends : InvOf → Option Part → ℕ → Turn
ends w None b = refuses w (Parse BadLine) w.parser.taken
ends w (Some part) b = cond (is_next w.part part) (goes_on w part b) (refuses w BadPart w.place)

-- a byte, by how the line's reading stands
abbrev pub turn_by : InvOf → Line → ℕ → Turn
turn_by w Start b = cond (is_space b) (passes w (b ∷ []) Start) (begins (placed w) b)
turn_by w Letter b = cond (is_space b) (reads w (115 ∷ b ∷ []) b) (grows w (32 ∷ 32 ∷ []) (grown S b) (w.parser.taken + 1))
turn_by w (Word s) b = cond (is_space b) (ends w (named s) b) (grows w (32 ∷ []) (grown s b) w.parser.taken)
turn_by w (Named part) b = cond (is_space b) (goes_on w part b) (refuses w (Parse BadLine) w.parser.taken)
turn_by w Inside b = reads w (b ∷ []) b
turn_by w (Refused f) b = record { to = w; says = [] }
turn_by w Lost b = record { to = w; says = [] }

abbrev pub turn : InvOf → ℕ → Turn
turn w b = turn_by w w.line b

-- where no stream goes on
abbrev pub parsed : Option ParseFault → Option InvFault
parsed None = None
parsed (Some f) = Some (record { kind = Parse f.kind; byte = f.byte })

abbrev pub fault_by : InvOf → Line → Option InvFault
fault_by w Start = parsed (fault_of w.parser.mode)
fault_by w Letter = parsed (fault_of w.parser.mode)
fault_by w (Word s) = parsed (fault_of w.parser.mode)
fault_by w (Named part) = parsed (fault_of w.parser.mode)
fault_by w Inside = parsed (fault_of w.parser.mode)
fault_by w (Refused f) = Some f
fault_by w Lost = None

abbrev pub fault : InvOf → Option InvFault
fault w = fault_by w w.line

-- how many bytes were taken: an s is kept back until the next byte tells what it begins
abbrev pub kept_back : Line → ℕ
kept_back Start = 0
kept_back Letter = 1
kept_back (Word s) = 0
kept_back (Named part) = 0
kept_back Inside = 0
kept_back (Refused f) = 0
kept_back Lost = 0

abbrev pub taken : InvOf → ℕ
taken w = w.parser.taken + kept_back w.line
