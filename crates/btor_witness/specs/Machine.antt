-- What each byte of a stream does to the little that is kept of those before it.
use Rattle.std.specs.Prelude.{◌≡◌, ℕ, ◌+◌, ◌-◌, ◌*◌, ◌^◌, min, Bool, true, false, cond, ◌&&◌, ◌||◌, eqb, leb, ltb, List, [], ◌∷◌, ◌++◌, length, take, drop, replicate, reverse, Option, Some, None, slice_get}
use Rattle.sby_bits.specs.Rows.{Row}
use Rattle.btor_witness.specs.Shape.{ShapeOf, open_bits, places_from, widths}
use Rattle.btor_witness.specs.Grammar.{is_blank, is_digit}
use Rattle.btor_witness.specs.declared.shape.Place.{Place}
use Rattle.btor_witness.specs.declared.word.Tag.{Tag}
use Rattle.btor_witness.specs.declared.word.Tag.TheVariants.{Bad, States, Inputs}
use Rattle.btor_witness.specs.declared.word.Token.{Token}
use Rattle.btor_witness.specs.declared.word.Token.TheVariants.{Number, Begun, Tagged, Dot, S, Sa, Sat, Other}
use Rattle.btor_witness.specs.declared.line.Line.{Line}
use Rattle.btor_witness.specs.declared.line.Line.TheVariants as line
use Rattle.btor_witness.specs.declared.line.Entry.{Entry}
use Rattle.btor_witness.specs.declared.line.Entry.TheVariants as entry
use Rattle.btor_witness.specs.declared.spot.Spot.{Spot}
use Rattle.btor_witness.specs.declared.spot.Spot.TheVariants as spot
use Rattle.btor_witness.specs.declared.spot.Seen.{Seen}
use Rattle.btor_witness.specs.declared.spot.Seen.TheVariants as come

-- a word's first byte
abbrev pub first_token : ℕ → Token
first_token b =
    cond (is_digit b) (Number (b - 48)) (cond (eqb b 98) (Begun Bad) (cond (eqb b 35) (Begun States) (cond (eqb b 64) (Begun Inputs) (cond (eqb b 46) Dot (cond (eqb b 115) S Other)))))

-- one digit more; the greatest number stands for all past it
abbrev pub with_digit : ℕ → ℕ → ℕ
with_digit n b = min (n * 10 + (b - 48)) (2 ^ 64 - 1)

-- one byte more
abbrev pub grown : Token → ℕ → Token
grown (Number n) b = cond (is_digit b) (Number (with_digit n b)) Other
grown (Begun tag) b = cond (is_digit b) (Tagged tag (b - 48)) Other
grown (Tagged tag n) b = cond (is_digit b) (Tagged tag (with_digit n b)) Other
grown Dot b = Other
grown S b = cond (eqb b 97) Sa Other
grown Sa b = cond (eqb b 116) Sat Other
grown Sat b = Other
grown Other b = Other

abbrev pub is_bad_tag : Tag → Bool
is_bad_tag Bad = true
is_bad_tag States = false
is_bad_tag Inputs = false

abbrev pub is_bad : Token → Bool
is_bad (Number n) = false
is_bad (Begun tag) = false
is_bad (Tagged tag n) = is_bad_tag tag
is_bad Dot = false
is_bad S = false
is_bad Sa = false
is_bad Sat = false
is_bad Other = false

-- what was read of a line, and the bits of its row, the highest first
pub record ScanOf : Type 0 where
  pub line : Line
  pub bits : List Bool

abbrev pub with_line : ScanOf → Line → ScanOf
with_line s l = record { line = l; bits = s.bits }

-- white space after it
abbrev pub line_left : Line → Line
line_left line.Blank = line.Blank
line_left (line.Word t) = line.Gap t
line_left (line.Gap t) = line.Gap t
line_left (line.Bads k t) = cond (is_bad t) (line.BadsGap k) line.Other
line_left (line.BadsGap k) = line.BadsGap k
line_left (line.Bits n more) = cond (eqb more 0) (line.BitsGap n) line.Other
line_left (line.BitsGap n) = line.BitsGap n
line_left (line.Symbol n) = line.SymbolGap n
line_left (line.SymbolGap n) = line.SymbolGap n
line_left line.Other = line.Other

abbrev pub bit_of : ℕ → Option Bool
bit_of b = cond (eqb b 49) (Some true) (cond (eqb b 48 || eqb b 120) (Some false) None)

-- a byte of the bits for number n, of which this many are still to come
abbrev pub read_bit : ScanOf → ℕ → ℕ → Option Bool → ScanOf
read_bit s n more None = with_line s line.Other
read_bit s n more (Some x) = cond (eqb more 0) (with_line s line.Other) (record { line = line.Bits n (more - 1); bits = s.bits ++ x ∷ [] })

abbrev pub begin_bits : ScanOf → ℕ → Option ℕ → ℕ → ScanOf
begin_bits s n None b = with_line s line.Other
begin_bits s n (Some width) b = read_bit s n width (bit_of b)

-- the first byte of a second word, after a first that is this; what has this number is so wide
abbrev pub second : ScanOf → Token → Option ℕ → ℕ → ScanOf
second s (Number n) width b = begin_bits s n width b
second s (Begun tag) width b = with_line s line.Other
second s (Tagged tag k) width b = with_line s (cond (is_bad_tag tag) (line.Bads k (first_token b)) line.Other)
second s Dot width b = with_line s line.Other
second s S width b = with_line s line.Other
second s Sa width b = with_line s line.Other
second s Sat width b = with_line s line.Other
second s Other width b = with_line s line.Other

-- a visible byte
abbrev pub visible_by : ScanOf → Line → Option ℕ → ℕ → ScanOf
visible_by s line.Blank width b = with_line s (line.Word (first_token b))
visible_by s (line.Word t) width b = with_line s (line.Word (grown t b))
visible_by s (line.Gap t) width b = second s t width b
visible_by s (line.Bads k t) width b = with_line s (line.Bads k (grown t b))
visible_by s (line.BadsGap k) width b = with_line s (line.Bads k (first_token b))
visible_by s (line.Bits n more) width b = read_bit s n more (bit_of b)
visible_by s (line.BitsGap n) width b = with_line s (line.Symbol n)
visible_by s (line.Symbol n) width b = with_line s (line.Symbol n)
visible_by s (line.SymbolGap n) width b = with_line s line.Other
visible_by s line.Other width b = with_line s line.Other

abbrev pub visible : ScanOf → Option ℕ → ℕ → ScanOf
visible s width b = visible_by s s.line width b

-- the number after which bits come
abbrev pub token_number : Token → Option ℕ
token_number (Number n) = Some n
token_number (Begun tag) = None
token_number (Tagged tag n) = None
token_number Dot = None
token_number S = None
token_number Sa = None
token_number Sat = None
token_number Other = None

abbrev pub number_of : Line → Option ℕ
number_of line.Blank = None
number_of (line.Word t) = None
number_of (line.Gap t) = token_number t
number_of (line.Bads k t) = None
number_of (line.BadsGap k) = None
number_of (line.Bits n more) = None
number_of (line.BitsGap n) = None
number_of (line.Symbol n) = None
number_of (line.SymbolGap n) = None
number_of line.Other = None

abbrev pub width_at : List ℕ → Option ℕ → Option ℕ
width_at ws None = None
width_at ws (Some n) = slice_get ws n

-- what a whole line is, if one of a witness
abbrev pub tag_entry : Tag → ℕ → Entry
tag_entry Bad n = entry.Bads n
tag_entry States n = entry.States n
tag_entry Inputs n = entry.Inputs n

abbrev pub token_entry : Token → Option Entry
token_entry (Number n) = None
token_entry (Begun tag) = None
token_entry (Tagged tag n) = Some (tag_entry tag n)
token_entry Dot = Some entry.End
token_entry S = None
token_entry Sa = None
token_entry Sat = Some entry.Sat
token_entry Other = None

abbrev pub line_entry : Line → Option Entry
line_entry line.Blank = None
line_entry (line.Word t) = None
line_entry (line.Gap t) = token_entry t
line_entry (line.Bads k t) = None
line_entry (line.BadsGap k) = Some (entry.Bads k)
line_entry (line.Bits n more) = None
line_entry (line.BitsGap n) = Some (entry.Assign n)
line_entry (line.Symbol n) = None
line_entry (line.SymbolGap n) = Some (entry.Assign n)
line_entry line.Other = None

-- what is kept of frames: how many there were, the bits with which open states start, and those of the inputs in each of the first frames, at
-- most this many, one after the other
pub record FramesOf : Type 0 where
  pub shape : ShapeOf
  pub most : ℕ
  pub count : ℕ
  pub starts : Row
  pub inputs : Row

abbrev pub no_frames : ShapeOf → ℕ → FramesOf
no_frames shape most = record { shape = shape; most = most; count = 0; starts = replicate (open_bits shape.states) false; inputs = [] }

-- a frame more
abbrev pub framed : FramesOf → FramesOf
framed k = record k { count = k.count + 1; inputs = cond (ltb k.count k.most) (k.inputs ++ replicate (open_bits k.shape.inputs) false) k.inputs }

-- a row in place of the bits from a place on
abbrev pub overwritten : Row → ℕ → Row → Row
overwritten bits at row = take at bits ++ row ++ drop (at + length row) bits

abbrev pub put_at : Row → ℕ → Option ℕ → Row → Row
put_at bits base None row = bits
put_at bits base (Some at) row = overwritten bits (base + at) row

-- the row of number n, where it is kept
abbrev pub put_row : Row → ℕ → Option Place → Row → Row
put_row bits base None row = bits
put_row bits base (Some p) row = put_at bits base p.first row

abbrev pub with_state : FramesOf → ℕ → Row → FramesOf
with_state k n row = record k { starts = cond (eqb k.count 1) (put_row k.starts 0 (slice_get (places_from 0 k.shape.states) n) row) k.starts }

abbrev pub with_input : FramesOf → ℕ → Row → FramesOf
with_input k n row = record k { inputs = cond (leb k.count k.most) (put_row k.inputs (length k.inputs - open_bits k.shape.inputs) (slice_get (places_from 0 k.shape.inputs) n) row) k.inputs }

-- how the reading of lines stands, and the bad that the witness is for
pub record ReadingOf : Type 0 where
  pub frames : FramesOf
  pub spot : Spot
  pub bad : ℕ

-- how wide the rows are that may come
abbrev pub widths_at : ShapeOf → Spot → List ℕ
widths_at shape spot.Skipping = []
widths_at shape spot.Found = []
widths_at shape spot.Named = []
widths_at shape spot.InStates = widths shape.states
widths_at shape spot.InInputs = widths shape.inputs
widths_at shape spot.Whole = []
widths_at shape (spot.Refused k) = []
widths_at shape spot.Lost = []

abbrev pub moved : ReadingOf → Spot → ReadingOf
moved r s = record r { spot = s }

-- A line that begins with byte number `first`, with these bits in its row. A frame begins, whose number has to be that of the frames before it.
abbrev pub begins_frame : ReadingOf → ℕ → Spot → ℕ → ReadingOf
begins_frame r first s t = cond (eqb t r.frames.count) (record r { spot = s; frames = framed r.frames }) (moved r (spot.Refused first))

-- the inputs of the frame whose states these are, or a frame more
abbrev pub is_in_states : Spot → Bool
is_in_states spot.Skipping = false
is_in_states spot.Found = false
is_in_states spot.Named = false
is_in_states spot.InStates = true
is_in_states spot.InInputs = false
is_in_states spot.Whole = false
is_in_states (spot.Refused k) = false
is_in_states spot.Lost = false

abbrev pub begins_inputs : ReadingOf → ℕ → ℕ → ReadingOf
begins_inputs r first t = cond (is_in_states r.spot && eqb (t + 1) r.frames.count) (moved r spot.InInputs) (begins_frame r first spot.InInputs t)

abbrev pub assigns : ReadingOf → ℕ → List Bool → Spot → ℕ → ReadingOf
assigns r first bits spot.Skipping n = moved r (spot.Refused first)
assigns r first bits spot.Found n = moved r (spot.Refused first)
assigns r first bits spot.Named n = moved r (spot.Refused first)
assigns r first bits spot.InStates n = record r { frames = with_state r.frames n (reverse bits) }
assigns r first bits spot.InInputs n = record r { frames = with_input r.frames n (reverse bits) }
assigns r first bits spot.Whole n = moved r (spot.Refused first)
assigns r first bits (spot.Refused k) n = moved r (spot.Refused first)
assigns r first bits spot.Lost n = moved r (spot.Refused first)

abbrev pub ends : ReadingOf → ℕ → ReadingOf
ends r first = moved r (cond (eqb r.frames.count 0) (spot.Refused first) spot.Whole)

-- a line before one that is `sat`
abbrev pub skips : ReadingOf → Option Entry → ReadingOf
skips r None = r
skips r (Some entry.Sat) = moved r spot.Found
skips r (Some (entry.Bads k)) = r
skips r (Some (entry.States t)) = r
skips r (Some (entry.Inputs t)) = r
skips r (Some (entry.Assign n)) = r
skips r (Some entry.End) = r

-- the line of bads
abbrev pub names : ReadingOf → ℕ → Option Entry → ReadingOf
names r first None = moved r (spot.Refused first)
names r first (Some entry.Sat) = moved r (spot.Refused first)
names r first (Some (entry.Bads k)) = record r { spot = spot.Named; bad = k }
names r first (Some (entry.States t)) = moved r (spot.Refused first)
names r first (Some (entry.Inputs t)) = moved r (spot.Refused first)
names r first (Some (entry.Assign n)) = moved r (spot.Refused first)
names r first (Some entry.End) = moved r (spot.Refused first)

-- a line of frames, or `.`
abbrev pub goes_on : ReadingOf → ℕ → List Bool → Option Entry → ReadingOf
goes_on r first bits None = moved r (spot.Refused first)
goes_on r first bits (Some entry.Sat) = moved r (spot.Refused first)
goes_on r first bits (Some (entry.Bads k)) = moved r (spot.Refused first)
goes_on r first bits (Some (entry.States t)) = begins_frame r first spot.InStates t
goes_on r first bits (Some (entry.Inputs t)) = begins_inputs r first t
goes_on r first bits (Some (entry.Assign n)) = assigns r first bits r.spot n
goes_on r first bits (Some entry.End) = ends r first

abbrev pub enters_by : ReadingOf → ℕ → List Bool → Spot → Option Entry → ReadingOf
enters_by r first bits spot.Skipping e = skips r e
enters_by r first bits spot.Found e = names r first e
enters_by r first bits spot.Named e = goes_on r first bits e
enters_by r first bits spot.InStates e = goes_on r first bits e
enters_by r first bits spot.InInputs e = goes_on r first bits e
enters_by r first bits spot.Whole e = r
enters_by r first bits (spot.Refused k) e = r
enters_by r first bits spot.Lost e = r

abbrev pub enters : ReadingOf → ℕ → List Bool → Option Entry → ReadingOf
enters r first bits e = enters_by r first bits r.spot e

-- What is kept: the reading of lines, that of this line, the number of the line's first byte, and how many bytes were taken.
pub record WitnessesOf : Type 0 where
  pub reading : ReadingOf
  pub scan : ScanOf
  pub first : ℕ
  pub taken : ℕ

abbrev pub no_scan : ScanOf
no_scan = record { line = line.Blank; bits = [] }

abbrev pub no_reading : ShapeOf → ℕ → ReadingOf
no_reading shape most = record { frames = no_frames shape most; spot = spot.Skipping; bad = 0 }

-- before the first byte
abbrev pub fresh : ShapeOf → ℕ → WitnessesOf
fresh shape most = record { reading = no_reading shape most; scan = no_scan; first = 0; taken = 0 }

-- the line is whole
abbrev pub line_ended : WitnessesOf → WitnessesOf
line_ended w =
    record { reading = enters w.reading w.first w.scan.bits (line_entry (line_left w.scan.line)); scan = no_scan; first = w.taken + 1; taken = w.taken + 1 }

abbrev pub width_for : WitnessesOf → Option ℕ
width_for w = width_at (widths_at w.reading.frames.shape w.reading.spot) (number_of w.scan.line)

abbrev pub left : WitnessesOf → WitnessesOf
left w = record w { scan = with_line w.scan (line_left w.scan.line); taken = w.taken + 1 }

abbrev pub seen : WitnessesOf → ℕ → WitnessesOf
seen w b = record w { scan = visible w.scan (width_for w) b; taken = w.taken + 1 }

abbrev pub read_open : WitnessesOf → ℕ → WitnessesOf
read_open w b = cond (eqb b 10) (line_ended w) (cond (is_blank b) (left w) (seen w b))

-- nothing is read after a whole witness, a refused line, or where memory ran out
abbrev pub is_over : Spot → Bool
is_over spot.Skipping = false
is_over spot.Found = false
is_over spot.Named = false
is_over spot.InStates = false
is_over spot.InInputs = false
is_over spot.Whole = true
is_over (spot.Refused k) = true
is_over spot.Lost = true

-- a byte more
abbrev pub turn : WitnessesOf → ℕ → WitnessesOf
turn w b = cond (is_over w.reading.spot) w (read_open w b)

abbrev pub after : WitnessesOf → List ℕ → WitnessesOf
after w [] = w
after w (b ∷ bytes) = after (turn w b) bytes

-- the bytes so far: nothing else is kept of them
abbrev pub StandsFor : ShapeOf → ℕ → WitnessesOf → List ℕ → Type 0
StandsFor shape most w bytes = w ≡ after (fresh shape most) bytes

-- what is seen in them
abbrev pub seen_by : Spot → Seen
seen_by spot.Skipping = come.More
seen_by spot.Found = come.More
seen_by spot.Named = come.More
seen_by spot.InStates = come.More
seen_by spot.InInputs = come.More
seen_by spot.Whole = come.Whole
seen_by (spot.Refused k) = come.BadWitness k
seen_by spot.Lost = come.More

abbrev pub so_far : WitnessesOf → Seen
so_far w = seen_by w.reading.spot

-- what is seen in them where the stream ends: of the last line no more counts than that it is `sat`, or `.` after a frame
abbrev pub is_sat : Option Entry → Bool
is_sat None = false
is_sat (Some entry.Sat) = true
is_sat (Some (entry.Bads k)) = false
is_sat (Some (entry.States t)) = false
is_sat (Some (entry.Inputs t)) = false
is_sat (Some (entry.Assign n)) = false
is_sat (Some entry.End) = false

abbrev pub is_end : Option Entry → Bool
is_end None = false
is_end (Some entry.Sat) = false
is_end (Some (entry.Bads k)) = false
is_end (Some (entry.States t)) = false
is_end (Some (entry.Inputs t)) = false
is_end (Some (entry.Assign n)) = false
is_end (Some entry.End) = true

abbrev pub ended_by : ℕ → Spot → Option Entry → Seen
ended_by taken spot.Skipping e = cond (is_sat e) (come.EarlyEnd taken) come.Unknown
ended_by taken spot.Found e = come.EarlyEnd taken
ended_by taken spot.Named e = come.EarlyEnd taken
ended_by taken spot.InStates e = cond (is_end e) come.Whole (come.EarlyEnd taken)
ended_by taken spot.InInputs e = cond (is_end e) come.Whole (come.EarlyEnd taken)
ended_by taken spot.Whole e = come.Whole
ended_by taken (spot.Refused k) e = come.BadWitness k
ended_by taken spot.Lost e = come.More

abbrev pub ended : WitnessesOf → Seen
ended w = ended_by w.taken w.reading.spot (line_entry (line_left w.scan.line))
