-- Which bits are read, otherwise than as a clock.
use Rattle.std.specs.Prelude.{◌≡◌, ◌⊎◌, ℕ, Some, slice_get, Contains}
use Rattle.design_core.specs.Asked.{output_of}
use Rattle.design_core.specs.Ports.{digits_at, signal_at}
use Rattle.design_core.specs.Shape.{CellOf, DesignOf}
use Rattle.design_core.specs.declared.digit.Digit.TheVariants.{Free as FreeDigit}
use Rattle.design_core.specs.declared.names.ParameterName.TheVariants.{ArstValue, SrstValue}
use Rattle.design_core.specs.declared.names.PortName.{PortName}
use Rattle.design_core.specs.declared.names.PortName.TheVariants.{A, B, S, En, D, Srst, Arst}
use Rattle.design_meaning.specs.Meaning.{IsCell, Chain}
use Rattle.design_meaning.specs.Rests.{IsDigit}
use Rattle.design_meaning.specs.States.{StateBit, Signal, Kept}
use Rattle.design_signals.specs.declared.sig_bit.SigBit.{SigBit}
use Rattle.design_signals.specs.declared.sig_bit.SigBit.TheVariants.{Free}

-- a cell reads a bit at this port
abbrev pub IsReadAt : CellOf → SigBit → PortName → Type 0
IsReadAt c b p = Contains (signal_at c.ports p) b

-- the value of a reset has the free bit
abbrev pub IsResetDigit : CellOf → SigBit → Type 0
IsResetDigit c b = (n : ℕ) × (b ≡ Free n) × (IsDigit (digits_at c.parameters SrstValue) (FreeDigit n) ⊎ IsDigit (digits_at c.parameters ArstValue) (FreeDigit n))

-- the cell reads the bit at another port than CLK, or in the value of a reset
abbrev pub ReadsOtherwise : CellOf → SigBit → Type 0
ReadsOtherwise c b =
    IsReadAt c b A ⊎ IsReadAt c b B ⊎ IsReadAt c b S ⊎ IsReadAt c b En ⊎ IsReadAt c b D ⊎ IsReadAt c b Srst ⊎ IsReadAt c b Arst ⊎ IsResetDigit c b

-- some cell reads, otherwise than as a clock, a bit whose chain of connects ends at this one
abbrev pub IsReadOtherwise : DesignOf → SigBit → Type 0
IsReadOtherwise d b = (n : ℕ) × (a : SigBit) × Chain d n a b × ((i : ℕ) × (c : CellOf) × IsCell d i c × ReadsOtherwise c a)

-- a state bit is read; of a stored row where some bit of the register's output is
abbrev pub IsStateRead : DesignOf → StateBit → Type 0
IsStateRead d (Signal b) = IsReadOtherwise d b
IsStateRead d (Kept i k) = (c : CellOf) × (l : ℕ) × (b : SigBit) × IsCell d i c × (slice_get (output_of c) l ≡ Some b) × IsReadOtherwise d b
