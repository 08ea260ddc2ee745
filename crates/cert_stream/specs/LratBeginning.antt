-- With which bytes a hinted stream may begin.
use Rattle.std.specs.Prelude.{ℕ, true, List, [], ◌∷◌, ◌++◌, Contains}
use Rattle.cert_stream.specs.LratTelling.{LratSaying, IsFault}
use Rattle.cert_stream.specs.LratLines.{sayings}
use Rattle.cert_stream.specs.declared.mode.ParseFault.{ParseFault}

-- one of these is the fault
abbrev pub HasFault : List LratSaying → ParseFault → Type 0
HasFault ss f = Contains ss (IsFault f)

abbrev pub HasNoFault : List LratSaying → Type 0
HasNoFault ss = (f : ParseFault) → HasFault ss f → ⊥

-- some stream begins with the bytes: they can go on so that all lines, the last one too, are whole and no fault is in them
abbrev pub Begins : ℕ → List ℕ → Type 0
Begins vars bytes = (more : List ℕ) × HasNoFault (sayings vars true (bytes ++ (more ++ 10 ∷ [])))
