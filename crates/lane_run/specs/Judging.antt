-- What whoever judges says of a child's output.
use Rattle.std.specs.Prelude.{ℕ, List}
use Rattle.race_core.specs.declared.event.Judged.{Judged}
use Rattle.race_core.specs.declared.event.Judged.TheVariants.{More, Found, Unknown, Bad, Failed, Unjudged}

-- what is said of bytes; out of memory says nothing, and that a read failed isn't said
abbrev pub Says : {T : Type 0} → (List ℕ → Judged T → Type 0) → List ℕ → Judged T → Type 0
Says stands bytes More = stands bytes More
Says stands bytes (Found f) = stands bytes (Found f)
Says stands bytes Unknown = stands bytes Unknown
Says stands bytes (Bad number at) = stands bytes (Bad number at)
Says stands bytes Failed = ⊥
Says stands bytes Unjudged = Unit {0}

-- what stands by the one stands by the other
abbrev pub Within : {T : Type 0} → (List ℕ → Judged T → Type 0) → (List ℕ → Judged T → Type 0) → Type 0
Within {T} now before = (bytes : List ℕ) (p : Judged T) → now bytes p → before bytes p
