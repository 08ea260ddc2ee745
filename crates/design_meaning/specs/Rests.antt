-- What rests on what within one cycle.
use Rattle.std.specs.Prelude.{◌≡◌, ◌⊎◌, ℕ, zero, suc, List, Option, Some, None, slice_get, Contains}
use Rattle.design_core.specs.Asked.{output_of}
use Rattle.design_core.specs.Ports.{signal_at, digits_at}
use Rattle.design_core.specs.Shape.{CellOf, ConnectOf, DesignOf}
use Rattle.design_core.specs.Table.{role_of, ports_read}
use Rattle.design_core.specs.declared.digit.Digit.{Digit}
use Rattle.design_core.specs.declared.digit.Digit.TheVariants.{Free as FreeDigit}
use Rattle.design_core.specs.declared.names.PortName.{PortName}
use Rattle.design_core.specs.declared.names.ParameterName.TheVariants.{ArstValue}
use Rattle.design_core.specs.declared.table.Role.TheVariants.{AsyncResetRegister}
use Rattle.design_signals.specs.declared.sig_bit.SigBit.{SigBit}
use Rattle.design_signals.specs.declared.sig_bit.SigBit.TheVariants.{Free}
use Rattle.design_meaning.specs.Meaning.{IsCell}

-- the digits of a parameter that is there
abbrev pub IsDigit : Option (List Digit) → Digit → Type 0
IsDigit None x = ⊥
IsDigit (Some digits) x = Contains digits x

-- a bit of a port on which the output rests in the same cycle
abbrev pub IsPortBit : CellOf → SigBit → Type 0
IsPortBit c a = (p : PortName) × Contains (ports_read c.kind) p × Contains (signal_at c.ports p) a

-- a free bit of the value to which an asynchronous reset sets the output
abbrev pub IsResetBit : CellOf → SigBit → Type 0
IsResetBit c a = (role_of c.kind ≡ AsyncResetRegister) × ((n : ℕ) × (a ≡ Free n) × IsDigit (digits_at c.parameters ArstValue) (FreeDigit n))

-- a cell drives a bit from another within the cycle
abbrev pub CellDrives : DesignOf → SigBit → SigBit → Type 0
CellDrives d a b = (i : ℕ) × (c : CellOf) × IsCell d i c × Contains (output_of c) a × (IsPortBit c b ⊎ IsResetBit c b)

-- a connect drives a bit from another
abbrev pub ConnectDrives : DesignOf → SigBit → SigBit → Type 0
ConnectDrives d a b = (i : ℕ) × (j : ConnectOf) × (k : ℕ) × (slice_get d.connects i ≡ Some j) × (slice_get j.left k ≡ Some a) × (slice_get j.right k ≡ Some b)

-- bit a rests on bit b by one step: by the cell that drives it, or by a connect
abbrev pub RestsOn : DesignOf → SigBit → SigBit → Type 0
RestsOn d a b = CellDrives d a b ⊎ ConnectDrives d a b

-- bit a rests on bit b by n steps
abbrev pub Rests : DesignOf → ℕ → SigBit → SigBit → Type 0
Rests d zero a b = a ≡ b
Rests d (suc n) a b = (m : SigBit) × RestsOn d a m × Rests d n m b

-- a bit that rests on itself by one step or more
abbrev pub IsOnLoop : DesignOf → SigBit → Type 0
IsOnLoop d a = (n : ℕ) × Rests d (suc n) a a
