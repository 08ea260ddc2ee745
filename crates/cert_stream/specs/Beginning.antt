-- With which bytes a stream may begin.
use Rattle.std.specs.Prelude.{ℕ, true, List, [], ◌∷◌, ◌++◌, Contains}
use Rattle.cert_stream.specs.Telling.{Saying, IsFault}
use Rattle.cert_stream.specs.Stream.{sayings}
use Rattle.cert_stream.specs.declared.mode.ParseFault.{ParseFault}

-- one of these is the fault
abbrev pub HasFault : List Saying → ParseFault → Type 0
HasFault ss f = Contains ss (IsFault f)

abbrev pub HasNoFault : List Saying → Type 0
HasNoFault ss = (f : ParseFault) → HasFault ss f → ⊥

-- some stream begins with the bytes: they can go on so that all lines, the last one too, are whole and no fault is in them
abbrev pub Begins : ℕ → List ℕ → Type 0
Begins vars bytes = (more : List ℕ) × HasNoFault (sayings vars true (bytes ++ (more ++ 10 ∷ [])))
