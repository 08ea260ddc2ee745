-- The parts of a design as contracts see them: lists, numbers and bits.
use Rattle.std.specs.Prelude.{◌≡◌, ℕ, ◌+◌, ◌<◌, ◌≤◌, ◌^◌, Bool, IsTrue, List, Option, Some, length, slice_get, All}
use Rattle.std.specs.List.{sum_by, list_all}
use Rattle.cell_table.specs.declared.kind.Kind.{Kind}
use Rattle.design_signals.specs.declared.sig_bit.SigBit.{SigBit}
use Rattle.design_signals.specs.declared.sig_bit.SigBit.TheVariants.{Wire, Const, Free}
use Rattle.design_core.specs.Ports.{are_distinct, names_parameter, port_number, parameter_number}
use Rattle.design_core.specs.declared.parts.Port.{Port}
use Rattle.design_core.specs.declared.parts.Parameter.{Parameter}
use Rattle.design_core.specs.declared.digit.Digit.{Digit}
use Rattle.design_core.specs.declared.digit.Digit.TheVariants.{Const as ConstDigit, Free as FreeDigit, Marker}

-- A wire. Each `\init` attribute gives a list of start digits, lowest first; None and what is missing are unknown.
pub record WireOf : Type 0 where
  pub name : List ℕ
  pub width : ℕ
  pub input : Bool
  pub inits : List (List (Option Bool))

-- A cell: the parameters that the table names for its type, and the ports that some line of the table names. Of its other ports
-- `foreign` has the names alone: such a port is a fault whatever is at it.
pub record CellOf : Type 0 where
  pub kind : Kind
  pub name : List ℕ
  pub parameters : List Parameter
  pub ports : List Port
  pub foreign : List (List ℕ)

-- `connect left right` drives left from right; this many cells stand before it in the file
pub record ConnectOf : Type 0 where
  pub left : List SigBit
  pub right : List SigBit
  pub cells_before : ℕ

-- A design: its wires, cells and connects in file order, and how many free bits are numbered, from 0.
pub record DesignOf : Type 0 where
  pub name : List ℕ
  pub wires : List WireOf
  pub cells : List CellOf
  pub connects : List ConnectOf
  pub free : ℕ

-- all wires' bits
abbrev pub wire_bits : DesignOf → ℕ
wire_bits d = sum_by (λ w. w.width) d.wires

-- a bit of a wire that is there, or a free bit that is numbered
abbrev pub IsDeclared : List WireOf → ℕ → SigBit → Type 0
IsDeclared wires free (Wire w b) = (x : WireOf) × (slice_get wires w ≡ Some x) × (b < x.width)
IsDeclared wires free (Const b) = Unit {0}
IsDeclared wires free (Free n) = n < free

abbrev pub IsNumbered : ℕ → Digit → Type 0
IsNumbered free (ConstDigit b) = Unit {0}
IsNumbered free (FreeDigit n) = n < free
IsNumbered free Marker = Unit {0}

-- a wire has at least one bit, and no list of start digits goes past it
abbrev pub IsWire : WireOf → Type 0
IsWire w = (0 < w.width) × All (λ digits. length digits ≤ w.width) w.inits

-- Each signal's bits are declared, each digit's number too, no port or parameter stands twice, and the table names each parameter
-- for the type.
pub record IsCellOf (wires : List WireOf) (free : ℕ) (c : CellOf) : Type 0 where
  pub ports : All (λ p. All (IsDeclared wires free) p.signal) c.ports
  pub parameters : All (λ p. All (IsNumbered free) p.digits) c.parameters
  pub one_port : IsTrue (are_distinct (λ p. port_number p.name) c.ports)
  pub one_parameter : IsTrue (are_distinct (λ p. parameter_number p.name) c.parameters)
  pub named : IsTrue (list_all (λ p. names_parameter c.kind p.name) c.parameters)

abbrev pub IsConnectOf : List WireOf → ℕ → ConnectOf → Type 0
IsConnectOf wires free j = All (IsDeclared wires free) j.left × All (IsDeclared wires free) j.right

-- how many cells stand before each connect never falls, nor passes the cells there are
abbrev pub IsFileOrder : ℕ → List ConnectOf → Type 0
IsFileOrder cells connects =
    All (λ j. j.cells_before ≤ cells) connects
    × ((k l : ℕ) (i j : ConnectOf) → k ≤ l → slice_get connects k ≡ Some i → slice_get connects l ≡ Some j → i.cells_before ≤ j.cells_before)

-- What holds of every design: its signals speak of its own bits, of which there are at most 2 ^ 21.
pub record IsDesign (d : DesignOf) : Type 0 where
  pub wires : All IsWire d.wires
  pub cells : All (IsCellOf d.wires d.free) d.cells
  pub connects : All (IsConnectOf d.wires d.free) d.connects
  pub order : IsFileOrder (length d.cells) d.connects
  pub bits : wire_bits d + d.free ≤ 2 ^ 21
  pub few_cells : length d.cells ≤ 2 ^ 27
  pub few_connects : length d.connects ≤ 2 ^ 26
