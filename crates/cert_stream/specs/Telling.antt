-- What bytes say, and what is kept of them.
use Rattle.std.specs.Prelude.{◌≡◌, ◌⊎◌, ℕ, Bool, true, false, cond, List, [], ◌∷◌, ◌++◌, Option, Some, None, Result, Ok, Err}
use Rattle.cnf_form.specs.Cnf.{LitOf}
use Rattle.cert_stream.specs.Machine.{DrupOf, turn, at_end, fault_of, is_in_literal}
use Rattle.cert_stream.specs.declared.mode.Mode.TheVariants.{Start}
use Rattle.cert_stream.specs.declared.feeding.Fed.{Fed}
use Rattle.cert_stream.specs.declared.feeding.Fed.TheVariants.{More, Stopped}
use Rattle.cert_stream.specs.declared.mode.ParseFault.{ParseFault}
use Rattle.cert_stream.specs.declared.mode.Event.{Event}
use Rattle.cert_stream.specs.declared.mode.Event.TheVariants.{Clause, Delete, Value, ValuesEnd, Unknown}

-- what a receiver gets
pub data Saying : Type 0 where
  IsClause : List LitOf → ℕ → Saying
  IsDelete : List LitOf → Saying
  IsValue : LitOf → Saying
  IsValuesEnd : Saying
  IsUnknown : Saying
  IsFault : ParseFault → Saying

abbrev pub saying : DrupOf → Event → Saying
saying w Clause = IsClause w.lits w.place
saying w Delete = IsDelete w.lits
saying w (Value l) = IsValue l
saying w ValuesEnd = IsValuesEnd
saying w Unknown = IsUnknown

abbrev pub told_by : DrupOf → Option Event → List Saying
told_by w None = []
told_by w (Some e) = saying w e ∷ []

-- what is kept after bytes
abbrev pub after : DrupOf → List ℕ → DrupOf
after w [] = w
after w (b ∷ bs) = after (turn w b).to bs

-- what they say
abbrev pub said : DrupOf → List ℕ → List Saying
said w [] = []
said w (b ∷ bs) = told_by (turn w b).to (turn w b).event ++ said (turn w b).to bs

-- before the first byte
abbrev pub fresh : ℕ → DrupOf
fresh vars = record { vars = vars; taken = 0; place = 0; mode = Start false; lits = [] }

-- the bytes so far: nothing else is kept of them
abbrev pub StandsFor : ℕ → DrupOf → List ℕ → Type 0
StandsFor vars w bytes = w ≡ after (fresh vars) bytes

-- A receiver that is x gets the sayings one after the other until it stops, and is y then; `stopped` tells whether it stopped.
abbrev pub Gets : {A S : Type 0} → (A → S → A → Type 0) → (A → Bool) → A → List S → A → Bool → Type 0
Gets gets stops x [] y stopped = (x ≡ y) × (stopped ≡ false)
Gets gets stops x (s ∷ ss) y stopped =
    (z : _) × gets x s z × (((stops z ≡ true) × (z ≡ y) × (stopped ≡ true)) ⊎ ((stops z ≡ false) × Gets gets stops z ss y stopped))

-- whether the receiver stopped the call
abbrev pub is_stopped : Result Fed ParseFault → Bool
is_stopped (Ok More) = false
is_stopped (Ok Stopped) = true
is_stopped (Err f) = false

-- what a call answers that the receiver didn't stop
abbrev pub answer : Option ParseFault → Result Fed ParseFault
answer None = Ok More
answer (Some f) = Err f

abbrev pub fault_said : Option ParseFault → List Saying
fault_said None = []
fault_said (Some f) = IsFault f ∷ []

-- what the bytes say, then what counts by the stream's end where it ends, then the fault if there is one
abbrev pub spoken : Bool → DrupOf → List ℕ → List Saying
spoken ended w bytes = said w bytes ++ (cond ended (told_by (after w bytes) (at_end (after w bytes).mode)) [] ++ fault_said (fault_of (after w bytes).mode))

-- some byte may take memory: it comes after a literal's digits, or something is said with it
abbrev pub TakesMemory : DrupOf → List ℕ → Type 0
TakesMemory w [] = ⊥
TakesMemory w (b ∷ bs) = (is_in_literal w.mode ≡ true) ⊎ ((e : Event) × ((turn w b).event ≡ Some e)) ⊎ TakesMemory (turn w b).to bs
