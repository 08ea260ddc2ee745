-- What bytes say, and what is kept of them.
use Rattle.std.specs.Prelude.{◌≡◌, ◌⊎◌, ℕ, Bool, true, false, cond, List, [], ◌∷◌, ◌++◌, Option, Some, None}
use Rattle.cnf_form.specs.Cnf.{LitOf}
use Rattle.cert_stream.specs.declared.mode.ParseFault.{ParseFault}
use Rattle.cert_stream.specs.declared.mode.Event.{Event}
use Rattle.cert_stream.specs.declared.mode.Event.TheVariants.{Clause, Delete, Value, ValuesEnd, Unknown}
use Rattle.cert_stream.specs.LratMachine.{LratOf, turn, at_end, fault_of, is_in_number}
use Rattle.cert_stream.specs.declared.lrat.mode.Hint.{Hint}
use Rattle.cert_stream.specs.declared.lrat.mode.Mode.TheVariants.{Start}

-- what a receiver gets: a clause with its id, its hints and its line's place, the ids of a deletion, and what other streams say too
pub data LratSaying : Type 0 where
  IsClause : ℕ → List LitOf → List Hint → ℕ → LratSaying
  IsDelete : List Hint → LratSaying
  IsValue : LitOf → LratSaying
  IsValuesEnd : LratSaying
  IsUnknown : LratSaying
  IsFault : ParseFault → LratSaying

abbrev pub saying : LratOf → Event → LratSaying
saying w Clause = IsClause w.id w.lits w.hints w.place
saying w Delete = IsDelete w.hints
saying w (Value l) = IsValue l
saying w ValuesEnd = IsValuesEnd
saying w Unknown = IsUnknown

abbrev pub told_by : LratOf → Option Event → List LratSaying
told_by w None = []
told_by w (Some e) = saying w e ∷ []

-- what is kept after bytes
abbrev pub after : LratOf → List ℕ → LratOf
after w [] = w
after w (b ∷ bs) = after (turn w b).to bs

-- what they say
abbrev pub said : LratOf → List ℕ → List LratSaying
said w [] = []
said w (b ∷ bs) = told_by (turn w b).to (turn w b).event ++ said (turn w b).to bs

-- before the first byte
abbrev pub fresh : ℕ → LratOf
fresh vars = record { vars = vars; taken = 0; place = 0; mode = Start false; id = 0; lits = []; hints = [] }

-- the bytes so far: nothing else is kept of them
abbrev pub StandsFor : ℕ → LratOf → List ℕ → Type 0
StandsFor vars w bytes = w ≡ after (fresh vars) bytes

abbrev pub fault_said : Option ParseFault → List LratSaying
fault_said None = []
fault_said (Some f) = IsFault f ∷ []

-- what the bytes say, then what counts by the stream's end where it ends, then the fault if there is one
abbrev pub spoken : Bool → LratOf → List ℕ → List LratSaying
spoken ended w bytes = said w bytes ++ (cond ended (told_by (after w bytes) (at_end (after w bytes).mode)) [] ++ fault_said (fault_of (after w bytes).mode))

-- some byte may take memory: it comes after the digits of a number in a list, or something is said with it
abbrev pub TakesMemory : LratOf → List ℕ → Type 0
TakesMemory w [] = ⊥
TakesMemory w (b ∷ bs) = (is_in_number w.mode ≡ true) ⊎ ((e : Event) × ((turn w b).event ≡ Some e)) ⊎ TakesMemory (turn w b).to bs
