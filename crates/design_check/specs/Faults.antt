-- The faults of a design: for each kind of fault, at which places it has an instance, and what it names there.
use Rattle.std.specs.Prelude.{◌≡◌, ◌≢◌, ◌⊎◌, ℕ, ◌<◌, Bool, true, false, not, eqb, List, [], ◌∷◌, ◌++◌, length, Some, None, Option, slice_get, Contains, codes, decimal}
use Rattle.cell_table.specs.declared.kind.Kind.TheVariants.{LeftOut as LeftOutCell, Unknown}
use Rattle.design_core.specs.Asked.{has_parameters, number_at, HasPorts}
use Rattle.design_core.specs.Ports.{signal_at}
use Rattle.design_core.specs.Shape.{WireOf, CellOf, ConnectOf, DesignOf}
use Rattle.design_core.specs.Table.{is_clocked, asks_one_sign, width_limit}
use Rattle.design_core.specs.declared.names.ParameterName.{ParameterName}
use Rattle.design_core.specs.declared.names.ParameterName.TheVariants.{ASigned, BSigned, ClkPolarity}
use Rattle.design_core.specs.declared.names.PortName.TheVariants.{Clk}
use Rattle.design_core.specs.declared.parts.Port.{Port}
use Rattle.design_graph.specs.Edges.{IsOneNet, IsWireOnLoop}
use Rattle.design_graph.specs.Items.{Precedes, PrecedesBit, DrivesBit, IsDrivenWrongly}
use Rattle.design_graph.specs.Order.{IsCellOnLoop}
use Rattle.design_graph.specs.declared.item.Item.{Item}
use Rattle.design_graph.specs.declared.item.Item.TheVariants.{Cell, Connect}
use Rattle.design_meaning.specs.Meaning.{IsCell, IsStart}
use Rattle.design_signals.specs.declared.sig_bit.SigBit.{SigBit}
use Rattle.design_signals.specs.declared.sig_bit.SigBit.TheVariants.{Wire as WireBit, Const, Free}
use Rattle.design_check.specs.declared.fault.FaultKind.{FaultKind}
use Rattle.design_check.specs.declared.fault.FaultKind.TheVariants.{UnknownCell, LeftOut, BadParameter, PortWidth, WidthLimit, MixedSign, TwoDrivers, MultiClock, InitConflict, Loop}

-- the order in which kinds of fault are looked for
abbrev pub rank : FaultKind → ℕ
rank UnknownCell = 0
rank LeftOut = 1
rank BadParameter = 2
rank PortWidth = 3
rank WidthLimit = 4
rank MixedSign = 5
rank TwoDrivers = 6
rank MultiClock = 7
rank InitConflict = 8
rank Loop = 9

-- the place of a fault: a cell or connect, a bit that one drives, counted from its lowest, or a wire
pub data Place : Type 0 where
  Whole : Item → Place
  Bit : Item → ℕ → Place
  Wire : ℕ → Place

-- places in the order of the file; a loop's cells come before its wires
abbrev pub Before : DesignOf → Place → Place → Type 0
Before d (Whole e) (Whole f) = Precedes d e f
Before d (Whole e) (Bit f l) = ⊥
Before d (Whole e) (Wire w) = Unit {0}
Before d (Bit e k) (Whole f) = ⊥
Before d (Bit e k) (Bit f l) = PrecedesBit d e k f l
Before d (Bit e k) (Wire w) = ⊥
Before d (Wire v) (Whole f) = ⊥
Before d (Wire v) (Bit f l) = ⊥
Before d (Wire v) (Wire w) = v < w

-- the place is a cell, or a connect, of which P holds
abbrev pub IsCellWith : DesignOf → Place → (ℕ → CellOf → Type 0) → Type 0
IsCellWith d p P = (i : ℕ) × (c : CellOf) × (p ≡ Whole (Cell i)) × IsCell d i c × P i c

abbrev pub IsConnectWith : DesignOf → Place → (ConnectOf → Type 0) → Type 0
IsConnectWith d p P = (k : ℕ) × (j : ConnectOf) × (p ≡ Whole (Connect k)) × (slice_get d.connects k ≡ Some j) × P j

-- a parameter as a flag: 1 where it isn't 0
abbrev pub flag : CellOf → ParameterName → Bool
flag c name = not (eqb (number_at c.parameters name) 0)

-- some signal of the cell has more bits than it may have
abbrev pub IsTooWide : CellOf → Type 0
IsTooWide c = (p : Port) × Contains c.ports p × (width_limit c.kind < length p.signal)

-- the cell's A_SIGNED and B_SIGNED differ where they have to be equal
abbrev pub IsMixed : CellOf → Type 0
IsMixed c = (asks_one_sign c.kind ≡ true) × (flag c ASigned ≢ flag c BSigned)

abbrev pub clock_of : CellOf → List SigBit
clock_of c = signal_at c.ports Clk

-- two registers are clocked by one edge of one net
pub record IsOneClock (d : DesignOf) (c e : CellOf) : Type 0 where
  pub net : (a : SigBit) × (b : SigBit) × (clock_of c ≡ a ∷ []) × (clock_of e ≡ b ∷ []) × IsOneNet d a b
  pub edge : flag c ClkPolarity ≡ flag e ClkPolarity

-- cell i is the first register with a clock
abbrev pub IsFirstClocked : DesignOf → ℕ → CellOf → Type 0
IsFirstClocked d i c = IsCell d i c × (is_clocked c.kind ≡ true) × ((k : ℕ) (e : CellOf) → k < i → IsCell d k e → is_clocked e.kind ≡ true → ⊥)

-- the cell is a register whose clock differs from that of the first register with a clock
abbrev pub IsOtherClock : DesignOf → CellOf → Type 0
IsOtherClock d c = (is_clocked c.kind ≡ true) × ((f : ℕ) × (e : CellOf) × IsFirstClocked d f e × (IsOneClock d e c → ⊥))

-- bit k of the register at place i starts with the digits 0 and 1
abbrev pub IsConflict : DesignOf → ℕ → ℕ → Type 0
IsConflict d i k = IsStart d i k false × IsStart d i k true

-- at which places each kind of fault has an instance
abbrev pub Instance : DesignOf → FaultKind → Place → Type 0
Instance d UnknownCell p = IsCellWith d p (λ i c. c.kind ≡ Unknown)
Instance d LeftOut p = IsCellWith d p (λ i c. (k : _) × (c.kind ≡ LeftOutCell k))
Instance d BadParameter p = IsCellWith d p (λ i c. has_parameters c.kind c.parameters ≡ false)
Instance d PortWidth p = IsCellWith d p (λ i c. HasPorts c → ⊥) ⊎ IsConnectWith d p (λ j. length j.left ≢ length j.right)
Instance d WidthLimit p = IsCellWith d p (λ i c. IsTooWide c)
Instance d MixedSign p = IsCellWith d p (λ i c. IsMixed c)
Instance d TwoDrivers p = (e : Item) × (k : ℕ) × (p ≡ Bit e k) × IsDrivenWrongly d e k
Instance d MultiClock p = IsCellWith d p (λ i c. IsOtherClock d c)
Instance d InitConflict p = (i : ℕ) × (k : ℕ) × (p ≡ Bit (Cell i) k) × IsConflict d i k
Instance d Loop p = IsCellWith d p (λ i c. IsCellOnLoop d i) ⊎ ((w : ℕ) × (p ≡ Wire w) × IsWireOnLoop d w)

-- no kind before the n-th has an instance
abbrev pub IsClean : DesignOf → ℕ → Type 0
IsClean d n = (k : FaultKind) (p : Place) → rank k < n → Instance d k p → ⊥

-- no fault has an instance
abbrev pub IsFlat : DesignOf → Type 0
IsFlat d = (k : FaultKind) (p : Place) → Instance d k p → ⊥

-- the wire of that number, by its name
abbrev pub name_in : Option WireOf → List ℕ
name_in None = []
name_in (Some x) = x.name

abbrev pub wire_name : DesignOf → ℕ → List ℕ
wire_name d w = name_in (slice_get d.wires w)

-- a wire's bit, as `\y [0]`
abbrev pub bit_name : DesignOf → ℕ → ℕ → List ℕ
bit_name d w b = wire_name d w ++ (codes " [" ++ (decimal b ++ codes "]"))

abbrev pub wire_of : SigBit → Option ℕ
wire_of (WireBit w b) = Some w
wire_of (Const b) = None
wire_of (Free n) = None

abbrev pub first_some : Option ℕ → Option ℕ → Option ℕ
first_some (Some w) other = Some w
first_some None other = other

-- the wire of a signal's highest wire bit
abbrev pub highest_wire : List SigBit → Option ℕ
highest_wire [] = None
highest_wire (x ∷ xs) = first_some (highest_wire xs) (wire_of x)

abbrev pub wire_or_dash : DesignOf → Option ℕ → List ℕ
wire_or_dash d (Some w) = wire_name d w
wire_or_dash d None = codes "-"

-- a connect is named by the wire of its highest wire bit, the left signal before the right one, or by - where it has none
abbrev pub connect_name : DesignOf → ConnectOf → List ℕ
connect_name d j = wire_or_dash d (first_some (highest_wire j.left) (highest_wire j.right))

-- a cell is named by its own name
abbrev pub NamesItem : DesignOf → Item → List ℕ → Type 0
NamesItem d (Cell i) name = (c : CellOf) × IsCell d i c × (name ≡ c.name)
NamesItem d (Connect k) name = (j : ConnectOf) × (slice_get d.connects k ≡ Some j) × (name ≡ connect_name d j)

-- a wire's bit is named by itself, any other bit by what drives it
abbrev pub NamesBit : DesignOf → Item → SigBit → List ℕ → Type 0
NamesBit d e (WireBit w b) name = name ≡ bit_name d w b
NamesBit d e (Const b) name = NamesItem d e name
NamesBit d e (Free n) name = NamesItem d e name

-- what the instance at a place names
abbrev pub Names : DesignOf → Place → List ℕ → Type 0
Names d (Whole e) name = NamesItem d e name
Names d (Bit e k) name = (a : SigBit) × DrivesBit d e k a × NamesBit d e a name
Names d (Wire w) name = (x : WireOf) × (slice_get d.wires w ≡ Some x) × (name ≡ x.name)

-- the first of the places where P holds
abbrev pub IsFirst : DesignOf → (Place → Type 0) → Place → Type 0
IsFirst d P p = P p × ((q : Place) → Before d q p → P q → ⊥)

-- the fault: of the first kind that has an instance, at the first place, by its name
pub record IsFault (d : DesignOf) (k : FaultKind) (name : List ℕ) : Type 0 where
  pub place : Place
  pub first : IsFirst d (Instance d k) place
  pub names : Names d place name
  pub earlier : IsClean d (rank k)

-- a fault as an answer
pub record FaultOf : Type 0 where
  pub kind : FaultKind
  pub name : List ℕ

-- a fault that a cell has by itself
abbrev pub IsPartFault : FaultKind → CellOf → Type 0
IsPartFault UnknownCell c = c.kind ≡ Unknown
IsPartFault LeftOut c = (k : _) × (c.kind ≡ LeftOutCell k)
IsPartFault BadParameter c = has_parameters c.kind c.parameters ≡ false
IsPartFault PortWidth c = HasPorts c → ⊥
IsPartFault WidthLimit c = IsTooWide c
IsPartFault MixedSign c = IsMixed c
IsPartFault TwoDrivers c = ⊥
IsPartFault MultiClock c = ⊥
IsPartFault InitConflict c = ⊥
IsPartFault Loop c = ⊥

-- only cells have faults of this kind, each by itself
abbrev pub is_of_cells : FaultKind → Bool
is_of_cells UnknownCell = true
is_of_cells LeftOut = true
is_of_cells BadParameter = true
is_of_cells PortWidth = false
is_of_cells WidthLimit = true
is_of_cells MixedSign = true
is_of_cells TwoDrivers = false
is_of_cells MultiClock = false
is_of_cells InitConflict = false
is_of_cells Loop = false
