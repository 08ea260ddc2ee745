-- The first register's bit with two start digits.
use Rattle.std.specs.Prelude.{◌≡◌, ℕ, ◌<◌, false, true, List, Some, slice_get}
use Rattle.design_core.specs.Shape.{DesignOf}
use Rattle.design_graph.specs.Starts.{IsRegisterStart}
use Rattle.design_meaning.specs.Meaning.{IsRegisterBit}
use Rattle.design_signals.specs.declared.sig_bit.SigBit.{SigBit}
use Rattle.design_check.specs.Faults.{IsConflict}

-- the bit at place k of a list has two start digits
abbrev pub IsTwice : DesignOf → List SigBit → ℕ → Type 0
IsTwice d bits k = (a : SigBit) × (slice_get bits k ≡ Some a) × IsRegisterStart d a false × IsRegisterStart d a true

-- the first bit of a list that has two
abbrev pub IsFirstTwice : DesignOf → List SigBit → SigBit → Type 0
IsFirstTwice d bits a = (k : ℕ) × (slice_get bits k ≡ Some a) × IsTwice d bits k × ((l : ℕ) → l < k → IsTwice d bits l → ⊥)

-- bit k of the register at place i is a, the first with two
pub record IsFirstConflict (d : DesignOf) (i : ℕ) (a : SigBit) : Type 0 where
  pub place : ℕ
  pub bit : IsRegisterBit d i place a
  pub conflict : IsConflict d i place
  pub lower : (l : ℕ) → l < place → IsConflict d i l → ⊥
  pub before : (k l : ℕ) → k < i → IsConflict d k l → ⊥
