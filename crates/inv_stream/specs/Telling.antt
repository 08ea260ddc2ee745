-- What bytes say, and what is kept of them.
use Rattle.std.specs.Prelude.{◌≡◌, ℕ, Bool, true, false, cond, List, [], ◌∷◌, ◌++◌, map, Option, Some, None, Result, Ok, Err}
use Rattle.cert_stream.specs.Machine.{at_end}
use Rattle.cert_stream.specs.Telling as drup
use Rattle.cert_stream.specs.Telling.{Saying, told_by}
use Rattle.cert_stream.specs.declared.feeding.Fed.{Fed}
use Rattle.cert_stream.specs.declared.feeding.Fed.TheVariants.{More, Stopped}
use Rattle.inv_stream.specs.Machine.{InvOf, InvSaying, IsFault, IsNext, Says, turn, fault}
use Rattle.inv_stream.specs.declared.mode.InvFault.{InvFault}
use Rattle.inv_stream.specs.declared.mode.Line.{Line}
use Rattle.inv_stream.specs.declared.mode.Line.TheVariants.{Start, Letter, Word, Named, Inside, Refused, Lost}
use Rattle.inv_stream.specs.declared.mode.Part.TheVariants.{Head}

-- what is kept after bytes
abbrev pub after : InvOf → List ℕ → InvOf
after w [] = w
after w (b ∷ bs) = after (turn w b).to bs

-- what they say
abbrev pub said : InvOf → List ℕ → List InvSaying
said w [] = []
said w (b ∷ bs) = (turn w b).says ++ said (turn w b).to bs

-- before the first byte
abbrev pub fresh : ℕ → InvOf
fresh vars = record { parser = drup.fresh vars; part = Head; line = Start; place = 0 }

-- the bytes so far: nothing else is kept of them
abbrev pub StandsFor : ℕ → InvOf → List ℕ → Type 0
StandsFor vars w bytes = w ≡ after (fresh vars) bytes

-- what becomes of a receiver that gets a saying; it gets no fault
abbrev pub Hears : {A : Type 0} → (A → Saying → A → Type 0) → (A → ℕ → A → Type 0) → A → InvSaying → A → Type 0
Hears gets parts x (IsNext place) y = parts x place y
Hears gets parts x (Says s) y = gets x s y
Hears gets parts x (IsFault f) y = ⊥

-- what counts by the stream's end: of its last line, where that is one of DRUP text
abbrev pub at_end_by : InvOf → Line → List InvSaying
at_end_by w Start = []
at_end_by w Letter = []
at_end_by w (Word s) = []
at_end_by w (Named part) = []
at_end_by w Inside = map Says (told_by w.parser (at_end w.parser.mode))
at_end_by w (Refused f) = []
at_end_by w Lost = []

abbrev pub at_end_says : InvOf → List InvSaying
at_end_says w = at_end_by w w.line

-- whether the receiver stopped the call
abbrev pub is_stopped : Result Fed InvFault → Bool
is_stopped (Ok More) = false
is_stopped (Ok Stopped) = true
is_stopped (Err f) = false

-- what a call answers that the receiver didn't stop
abbrev pub answer : Option InvFault → Result Fed InvFault
answer None = Ok More
answer (Some f) = Err f

abbrev pub fault_said : Option InvFault → List InvSaying
fault_said None = []
fault_said (Some f) = IsFault f ∷ []

-- what the bytes of a stream over the variables from 1 to `vars` say, then what counts by its end where it ends, then the fault if there is one
abbrev pub sayings : ℕ → Bool → List ℕ → List InvSaying
sayings vars ended bytes =
    said (fresh vars) bytes ++ (cond ended (at_end_says (after (fresh vars) bytes)) [] ++ fault_said (fault (after (fresh vars) bytes)))
