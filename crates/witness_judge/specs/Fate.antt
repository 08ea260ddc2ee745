-- The fate of a stream as a witness.
use Rattle.std.specs.Prelude.{◌≡◌, ◌⊎◌, ℕ, Bool, true, false, List, Option, Some, None}
use Rattle.cert_judge.specs.Fate.{Fate, FateBy, FateSoFarBy, Unknown as UnknownFate, Bad}
use Rattle.cert_judge.specs.declared.stream.CertKind.TheVariants.{BadWitness as BadWitnessKind, EarlyEnd as EarlyEndKind}
use Rattle.btor_witness.specs.Grammar.{WitnessOf}
use Rattle.btor_witness.specs.Shape.{ShapeOf}
use Rattle.btor_witness.specs.Streams.{EndsWith, Holds, IsFate, IsSeen}
use Rattle.btor_witness.specs.declared.spot.Seen.{Seen}
use Rattle.btor_witness.specs.declared.spot.Seen.TheVariants.{More, Whole, Unknown, EarlyEnd, BadWitness}
use Rattle.witness_judge.specs.Choosing.{AskedOf, shape_of}
use Rattle.witness_judge.specs.Playing.{PlaysTo}

-- what is seen in bytes, which are all where the stream ended
abbrev pub SeenBy : Bool → ShapeOf → List ℕ → Seen → Type 0
SeenBy false = IsSeen
SeenBy true = IsFate

-- a witness is in them
abbrev pub HasWitness : Bool → ShapeOf → List ℕ → WitnessOf → Type 0
HasWitness false shape bytes x = Holds shape bytes x
HasWitness true shape bytes x = Holds shape bytes x ⊎ EndsWith shape bytes x

-- their fate by what is seen in them; None where they are undecided
abbrev pub SeenFate : AskedOf → Bool → List ℕ → Seen → Option Fate → Type 0
SeenFate a ended bytes More fate = fate ≡ None
SeenFate a ended bytes Whole fate = (x : WitnessOf) × (played : Fate) × HasWitness ended (shape_of a) bytes x × PlaysTo a x played × (fate ≡ Some played)
SeenFate a ended bytes Unknown fate = fate ≡ Some UnknownFate
SeenFate a ended bytes (EarlyEnd n) fate = fate ≡ Some (Bad EarlyEndKind n)
SeenFate a ended bytes (BadWitness n) fate = fate ≡ Some (Bad BadWitnessKind n)

abbrev pub BytesFate : AskedOf → Bool → List ℕ → Option Fate → Type 0
BytesFate a ended bytes fate = (seen : Seen) × SeenBy ended (shape_of a) bytes seen × SeenFate a ended bytes seen fate

-- the fate of these bytes of a stream, `most` of them at most: where more may follow
abbrev pub IsWitnessFateSoFar : AskedOf → List ℕ → ℕ → Option Fate → Type 0
IsWitnessFateSoFar a = FateSoFarBy (BytesFate a)

-- and where the stream ends with them
abbrev pub IsWitnessFate : AskedOf → List ℕ → ℕ → Fate → Type 0
IsWitnessFate a = FateBy (BytesFate a)
