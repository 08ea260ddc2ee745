-- What each byte of an output does, and what is handed on as a stream.
use Rattle.std.specs.Prelude.{ℕ, ◌+◌, Bool, true, false, cond, ◌&&◌, ◌||◌, eqb, leb, List, [], ◌∷◌, ◌++◌, Some, None, slice_get, codes}
use Rattle.cert_stream.specs.Text.{is_blank}
use Rattle.cert_judge.specs.Output.{is_claim}
use Rattle.cert_judge.specs.declared.spot.AmidSpot.{AmidSpot}
use Rattle.cert_judge.specs.declared.spot.AmidSpot.TheVariants.{Start as LineStart, Held as HeldHead, Within as InLine, Spelled, Whole, Passed}
use Rattle.cert_judge.specs.declared.spot.Spot.{Spot}
use Rattle.cert_judge.specs.declared.spot.Spot.TheVariants.{Start, Held, Within, Amid}

-- white space or a line feed
abbrev pub ends_word : ℕ → Bool
ends_word b = eqb b 10 || is_blank b

abbrev pub head_given : ℕ → ℕ → ℕ
head_given head b = cond (ends_word b) head 99

-- v
abbrev pub is_values : ℕ → Bool
is_values head = eqb head 118

-- the letter of UNKNOWN after this many of them
abbrev pub is_letter : ℕ → ℕ → Bool
is_letter n b = elim (slice_get (codes "UNKNOWN") n) [ None ↦ false | Some c ↦ eqb c b ]

-- white space after this many letters
abbrev pub parted : ℕ → AmidSpot
parted n = cond (eqb n 0) (Spelled 0) (cond (leb 7 n) Whole Passed)

-- amid values, what a byte does that is no line feed
abbrev pub amid_next : AmidSpot → ℕ → AmidSpot
amid_next LineStart b = cond (is_blank b) LineStart (cond (is_claim b) (HeldHead b) InLine)
amid_next (HeldHead head) b = cond (eqb head 115 && is_blank b) (Spelled 0) InLine
amid_next InLine b = InLine
amid_next (Spelled n) b = cond (is_blank b) (parted n) (cond (is_letter n b) (Spelled (n + 1)) Passed)
amid_next Whole b = cond (is_blank b) Whole Passed
amid_next Passed b = Passed

abbrev pub next_spot : Spot → ℕ → Spot
next_spot Start b = cond (ends_word b) Start (cond (is_claim b) (Held b) Within)
next_spot (Held head) b = cond (eqb b 10) (cond (is_values head) (Amid LineStart) Start) (cond (is_values head && is_blank b) (Amid InLine) Within)
next_spot Within b = cond (eqb b 10) Start Within
next_spot (Amid spot) b = Amid (cond (eqb b 10) LineStart (amid_next spot b))

-- within a line that is handed on as it is
abbrev pub IsWithin : Spot → Type 0
IsWithin Start = ⊥
IsWithin (Held head) = ⊥
IsWithin Within = Unit {0}
IsWithin (Amid LineStart) = ⊥
IsWithin (Amid (HeldHead head)) = ⊥
IsWithin (Amid InLine) = Unit {0}
IsWithin (Amid (Spelled n)) = ⊥
IsWithin (Amid Whole) = ⊥
IsWithin (Amid Passed) = ⊥

-- the bytes of the stream that it hands on
abbrev pub amid_given : AmidSpot → ℕ → List ℕ
amid_given LineStart b = cond (is_blank b) (b ∷ []) (cond (is_claim b) [] (99 ∷ []))
amid_given (HeldHead head) b = cond (eqb head 115 && is_blank b) (32 ∷ 32 ∷ []) (head_given head b ∷ b ∷ [])
amid_given InLine b = b ∷ []
amid_given (Spelled n) b = 32 ∷ []
amid_given Whole b = 32 ∷ []
amid_given Passed b = 32 ∷ []

-- what is handed on where the line or the output ends
abbrev pub amid_end : AmidSpot → List ℕ
amid_end LineStart = []
amid_end (HeldHead head) = cond (eqb head 115) 32 head ∷ []
amid_end InLine = []
amid_end (Spelled n) = []
amid_end Whole = []
amid_end Passed = []

-- whether the line is s UNKNOWN
abbrev pub amid_unknown : AmidSpot → Bool
amid_unknown LineStart = false
amid_unknown (HeldHead head) = false
amid_unknown InLine = false
amid_unknown (Spelled n) = leb 7 n
amid_unknown Whole = true
amid_unknown Passed = false

-- the bytes of the stream that a byte hands on
abbrev pub given_by : Spot → ℕ → List ℕ
given_by Start b = cond (ends_word b) (b ∷ []) (cond (is_claim b) [] (99 ∷ []))
given_by (Held head) b = head_given head b ∷ b ∷ []
given_by Within b = b ∷ []
given_by (Amid spot) b = cond (eqb b 10) (amid_end spot ++ cond (amid_unknown spot) 115 10 ∷ []) (amid_given spot b)

-- whether a line of values is among those so far
abbrev pub next_values : Spot → Bool → ℕ → Bool
next_values Start values b = values
next_values (Held head) values b = values || (is_values head && ends_word b)
next_values Within values b = values
next_values (Amid spot) values b = values

abbrev pub values_at_end : Spot → Bool → Bool
values_at_end Start values = values
values_at_end (Held head) values = values || is_values head
values_at_end Within values = values
values_at_end (Amid spot) values = values

-- what the output's end hands on
abbrev pub given_at_end : Spot → List ℕ
given_at_end Start = []
given_at_end (Held head) = head ∷ []
given_at_end Within = []
given_at_end (Amid spot) = amid_end spot

-- and bytes, one after the other
abbrev pub spot_after : Spot → List ℕ → Spot
spot_after spot [] = spot
spot_after spot (b ∷ bs) = spot_after (next_spot spot b) bs

abbrev pub given : Spot → List ℕ → List ℕ
given spot [] = []
given spot (b ∷ bs) = given_by spot b ++ given (next_spot spot b) bs

abbrev pub values_after : Spot → Bool → List ℕ → Bool
values_after spot values [] = values
values_after spot values (b ∷ bs) = values_after (next_spot spot b) (next_values spot values b) bs
