-- What drives within one cycle, and an order in which each bit can be computed after those that it rests on.
use Rattle.std.specs.Prelude.{◌≡◌, ◌⊎◌, ℕ, ◌<◌, Bool, true, false, List, length, Some, slice_get, Contains}
use Rattle.design_core.specs.Asked.{output_of}
use Rattle.design_core.specs.Shape.{CellOf, ConnectOf, DesignOf}
use Rattle.design_core.specs.Table.{role_of}
use Rattle.design_core.specs.declared.table.Role.{Role}
use Rattle.design_core.specs.declared.table.Role.TheVariants.{Combinational, Register, AsyncResetRegister, Constant, Initial, Source, Statement, Unsupported}
use Rattle.design_meaning.specs.Meaning.{IsCell}
use Rattle.design_meaning.specs.Rests.{IsPortBit, IsResetBit, Rests}
use Rattle.design_signals.specs.declared.sig_bit.SigBit.{SigBit}
use Rattle.design_graph.specs.declared.driver.Driver.{Driver}
use Rattle.design_graph.specs.declared.driver.Driver.TheVariants.{Cell, Connect}

-- the output follows from bits of the same cycle
abbrev pub is_in_cycle : Role → Bool
is_in_cycle Combinational = true
is_in_cycle Register = false
is_in_cycle AsyncResetRegister = true
is_in_cycle Constant = false
is_in_cycle Initial = false
is_in_cycle Source = false
is_in_cycle Statement = false
is_in_cycle Unsupported = false

-- a driver within the cycle: a cell whose output follows from bits of the cycle, or one bit of a connect
abbrev pub IsDriver : DesignOf → Driver → Type 0
IsDriver d (Cell i) = (c : CellOf) × IsCell d i c × (is_in_cycle (role_of c.kind) ≡ true)
IsDriver d (Connect i k) = (j : ConnectOf) × (slice_get d.connects i ≡ Some j) × (k < length j.left)

-- a cell drives each bit of its output, bit k of a connect the bit k of the left side
abbrev pub Drives : DesignOf → Driver → SigBit → Type 0
Drives d (Cell i) a = (c : CellOf) × IsCell d i c × Contains (output_of c) a
Drives d (Connect i k) a = (j : ConnectOf) × (slice_get d.connects i ≡ Some j) × (slice_get j.left k ≡ Some a)

-- a bit on which a cell's output rests in the same cycle
abbrev pub IsRead : CellOf → SigBit → Type 0
IsRead c b = IsPortBit c b ⊎ IsResetBit c b

-- a cell drives from all that its output rests on, bit k of a connect from the bit k of the right side
abbrev pub DrivesFrom : DesignOf → Driver → SigBit → Type 0
DrivesFrom d (Cell i) b = (c : CellOf) × IsCell d i c × IsRead c b
DrivesFrom d (Connect i k) b = (j : ConnectOf) × (slice_get d.connects i ≡ Some j) × (slice_get j.right k ≡ Some b)

-- a cell that is on a loop: it drives a bit from one that rests on that bit
abbrev pub IsCellOnLoop : DesignOf → ℕ → Type 0
IsCellOnLoop d i = (a : SigBit) × (b : SigBit) × (n : ℕ) × Drives d (Cell i) a × DrivesFrom d (Cell i) b × Rests d n b a

-- Each driver stands in the list exactly once, and what it drives from is driven by none at its own or a later place.
pub record IsOrder (d : DesignOf) (order : List Driver) : Type 0 where
  pub drivers : (k : ℕ) (r : Driver) → slice_get order k ≡ Some r → IsDriver d r
  pub all : (r : Driver) → IsDriver d r → Contains order r
  pub once : (k l : ℕ) (r : Driver) → slice_get order k ≡ Some r → slice_get order l ≡ Some r → k ≡ l
  pub earlier : (k l : ℕ) (r s : Driver) (b : SigBit) → slice_get order k ≡ Some r → slice_get order l ≡ Some s → DrivesFrom d r b → Drives d s b → l < k
