-- Registers with an asynchronous reset as registers with a synchronous one: each becomes a register on a new wire, and a `$mux` makes what it shows.
use Rattle.std.specs.Prelude.{◌≡◌, ◌↔◌, ℕ, zero, suc, ◌<◌, Bool, true, false, cond, List, [], ◌∷◌, ◌++◌, length, map, Option, Some, None, slice_get, slice_set, Contains, codes, decimal}
use Rattle.std.specs.List.{list_any}
use Rattle.cell_table.specs.declared.kind.Kind.TheVariants.{Mux, Sdff, Sdffe}
use Rattle.design_signals.specs.Chunks.{bits_from}
use Rattle.design_signals.specs.declared.sig_bit.SigBit.{SigBit}
use Rattle.design_signals.specs.declared.sig_bit.SigBit.TheVariants.{Wire, Const, Free}
use Rattle.design_core.specs.Asked.{has_parameters, number_at, HasPorts, output_of}
use Rattle.design_core.specs.Ports.{is_port, signal_at, digits_at}
use Rattle.design_core.specs.Shape.{WireOf, CellOf, DesignOf, IsWire}
use Rattle.design_core.specs.Table.{role_of, ports_of}
use Rattle.design_core.specs.declared.digit.Digit.{Digit}
use Rattle.design_core.specs.declared.digit.Digit.TheVariants.{Const as ConstDigit, Free as FreeDigit, Marker}
use Rattle.design_core.specs.declared.names.PortName.{PortName}
use Rattle.design_core.specs.declared.names.PortName.TheVariants.{A, B, S, En, Y, Clk, D, Q, Srst, Arst}
use Rattle.design_core.specs.declared.names.ParameterName.{ParameterName}
use Rattle.design_core.specs.declared.names.ParameterName.TheVariants.{Width, ClkPolarity, EnPolarity, SrstPolarity, SrstValue, ArstPolarity, ArstValue}
use Rattle.design_core.specs.declared.parts.Port.{Port}
use Rattle.design_core.specs.declared.parts.Parameter.{Parameter}
use Rattle.design_core.specs.declared.table.Role.TheVariants.{AsyncResetRegister}
use Rattle.design_meaning.specs.Meaning.{IsCell, IsStart}
use Rattle.design_check.specs.Faults.{flag}

-- the cell is a register with an asynchronous reset, and fits its line of the table
pub record FitsReset (c : CellOf) : Type 0 where
  pub role : role_of c.kind ≡ AsyncResetRegister
  pub parameters : has_parameters c.kind c.parameters ≡ true
  pub ports : HasPorts c

-- a digit as a bit, and the digits of a parameter
abbrev pub digit_bit : Digit → SigBit
digit_bit (ConstDigit b) = Const b
digit_bit (FreeDigit n) = Free n
digit_bit Marker = Const false

abbrev pub digits_or_none : Option (List Digit) → List Digit
digits_or_none None = []
digits_or_none (Some digits) = digits

abbrev pub digits_of_cell : CellOf → ParameterName → List Digit
digits_of_cell c name = digits_or_none (digits_at c.parameters name)

-- ARST_VALUE as a signal; a free digit is the same free bit
abbrev pub reset_signal : CellOf → List SigBit
reset_signal c = map digit_bit (digits_of_cell c ArstValue)

-- the bits of the new wire, which are the stored row
abbrev pub kept_signal : ℕ → CellOf → List SigBit
kept_signal w c = bits_from (Wire w 0) 0 (number_at c.parameters Width)

-- the cell has an enable
abbrev pub has_enable : CellOf → Bool
has_enable c = list_any (λ l. is_port l.name En) (ports_of c.kind)

abbrev pub parameter : ParameterName → List Digit → Parameter
parameter name digits = record { name = name; digits = digits }

abbrev pub port : PortName → List SigBit → Port
port name signal = record { name = name; signal = signal }

-- what the cell shows: ARST_VALUE while it is reset, else the stored row; ARST_VALUE stands at B where ARST is active at 1, at A where at 0
abbrev pub shown : ℕ → CellOf → CellOf
shown w c = record {
  kind = Mux;
  name = c.name;
  parameters = parameter Width (digits_of_cell c Width) ∷ [];
  ports = port A (cond (flag c ArstPolarity) (kept_signal w c) (reset_signal c)) ∷ port B (cond (flag c ArstPolarity) (reset_signal c) (kept_signal w c)) ∷ port S (signal_at c.ports Arst) ∷ port Y (output_of c) ∷ [];
  foreign = [];
}

-- the register, without and with an enable: what was reset at once is reset at the clock, before the enable
abbrev pub plain_register : ℕ → CellOf → CellOf
plain_register w c = record {
  kind = Sdff;
  name = c.name;
  parameters = parameter ClkPolarity (digits_of_cell c ClkPolarity) ∷ parameter SrstPolarity (digits_of_cell c ArstPolarity) ∷ parameter SrstValue (digits_of_cell c ArstValue) ∷ parameter Width (digits_of_cell c Width) ∷ [];
  ports = port Clk (signal_at c.ports Clk) ∷ port D (signal_at c.ports D) ∷ port Q (kept_signal w c) ∷ port Srst (signal_at c.ports Arst) ∷ [];
  foreign = [];
}

abbrev pub enabled_register : ℕ → CellOf → CellOf
enabled_register w c = record {
  kind = Sdffe;
  name = c.name;
  parameters = parameter ClkPolarity (digits_of_cell c ClkPolarity) ∷ parameter EnPolarity (digits_of_cell c EnPolarity) ∷ parameter SrstPolarity (digits_of_cell c ArstPolarity) ∷ parameter SrstValue (digits_of_cell c ArstValue)
      ∷ parameter Width (digits_of_cell c Width) ∷ [];
  ports = port Clk (signal_at c.ports Clk) ∷ port D (signal_at c.ports D) ∷ port En (signal_at c.ports En) ∷ port Q (kept_signal w c) ∷ port Srst (signal_at c.ports Arst) ∷ [];
  foreign = [];
}

-- what stands in the cell's place, where the new wire is wire w
abbrev pub register : ℕ → CellOf → CellOf
register w c = cond (has_enable c) (enabled_register w c) (plain_register w c)

-- the name `$kept_I`, and that a wire or a cell has it
abbrev pub kept_name : ℕ → List ℕ
kept_name n = codes "$kept_" ++ decimal n

abbrev pub names : DesignOf → List (List ℕ)
names d = map (λ w. w.name) d.wires ++ map (λ c. c.name) d.cells

abbrev pub IsTaken : DesignOf → ℕ → Type 0
IsTaken d n = Contains (names d) (kept_name n)

-- an attribute gives bit k of the wire the start digit x
abbrev pub HasDigit : WireOf → ℕ → Bool → Type 0
HasDigit w k x = (digits : List (Option Bool)) × Contains w.inits digits × (slice_get digits k ≡ Some (Some x))

-- The new wire of the cell at place i: its name has the least number that is free, and the cell's start digits are its own.
pub record IsKeptWire (d : DesignOf) (i : ℕ) (c : CellOf) (w : WireOf) : Type 0 where
  pub number : ℕ
  pub name : w.name ≡ kept_name number
  pub unused : IsTaken d number → ⊥
  pub least : (k : ℕ) → k < number → IsTaken d k
  pub wire : IsWire w
  pub width : w.width ≡ number_at c.parameters Width
  pub input : w.input ≡ false
  pub digits : (k : ℕ) (x : Bool) → HasDigit w k x ↔ IsStart d i k x

-- d with the cell at place i lowered onto the new wire w: the register in its place, the `$mux` after all cells
abbrev pub with_lowered : DesignOf → ℕ → CellOf → WireOf → DesignOf
with_lowered d i c w = record d {
  wires = d.wires ++ w ∷ [];
  cells = slice_set d.cells i (register (length d.wires) c) ++ shown (length d.wires) c ∷ [];
}

-- the first cell that fits is lowered in e
pub record LowersOne (d e : DesignOf) : Type 0 where
  pub place : ℕ
  pub cell : CellOf
  pub there : IsCell d place cell
  pub fits : FitsReset cell
  pub first : (k : ℕ) (c : CellOf) → k < place → IsCell d k c → FitsReset c → ⊥
  pub wire : WireOf
  pub kept : IsKeptWire d place cell wire
  pub lowered : e ≡ with_lowered d place cell wire

-- e is d with n cells lowered, one after the other
abbrev pub LowersSome : ℕ → DesignOf → DesignOf → Type 0
LowersSome zero d e = d ≡ e
LowersSome (suc n) d e = (m : DesignOf) × LowersOne d m × LowersSome n m e

-- no cell is left that fits
abbrev pub IsLow : DesignOf → Type 0
IsLow d = (i : ℕ) (c : CellOf) → IsCell d i c → FitsReset c → ⊥

-- e is d with each register that fits lowered
pub record IsLowered (d e : DesignOf) : Type 0 where
  pub count : ℕ
  pub steps : LowersSome count d e
  pub low : IsLow e
