-- The register of each cell with a state, and the digits that its bits start with.
use Rattle.std.specs.Prelude.{◌≡◌, ◌↔◌, ℕ, suc, ◌<◌, Bool, true, false, cond, List, [], ◌∷◌, ◌++◌, length, Option, Some, slice_get}
use Rattle.design_check.specs.Faults.{flag}
use Rattle.design_core.specs.Asked.{output_of}
use Rattle.design_core.specs.Cells.{next_state}
use Rattle.design_core.specs.Ports.{signal_at}
use Rattle.design_core.specs.Shape.{CellOf, DesignOf}
use Rattle.design_core.specs.Table.{role_of}
use Rattle.design_core.specs.declared.names.ParameterName.{ParameterName}
use Rattle.design_core.specs.declared.names.ParameterName.TheVariants.{EnPolarity, SrstPolarity, SrstValue, ArstPolarity, ArstValue}
use Rattle.design_core.specs.declared.names.PortName.{PortName}
use Rattle.design_core.specs.declared.names.PortName.TheVariants.{D, En, Srst, Arst}
use Rattle.design_core.specs.declared.table.Role.{Role}
use Rattle.design_core.specs.declared.table.Role.TheVariants.{Combinational, Register, AsyncResetRegister, Constant, Initial, Source, Statement, Unsupported}
use Rattle.design_meaning.specs.Meaning.{IsStart}
use Rattle.design_meaning.specs.States.{state_of}
use Rattle.model_core.specs.Shape.{ModelOf, RegisterOf}
use Rattle.model_core.specs.declared.model.Control.{Control}
use Rattle.word_model.specs.Kinds.{asks, is_reset_value}
use Rattle.word_model.specs.Layout.{bit_place, kept_places, parameter_places, signal_places, zero_place}

-- active in each cycle, and in none
abbrev pub always : DesignOf → Control
always d = record { place = suc (zero_place d); level = true }

abbrev pub never : DesignOf → Control
never d = record { place = zero_place d; level = true }

-- the bit at a port, active at 1 where the parameter isn't 0
abbrev pub control : DesignOf → CellOf → PortName → ParameterName → Control
control d c port polarity = record { place = bit_place d (signal_at c.ports port); level = flag c polarity }

abbrev pub enable_of : DesignOf → CellOf → Control
enable_of d c = cond (asks c.kind En) (control d c En EnPolarity) (always d)

abbrev pub reset_of : DesignOf → CellOf → Control
reset_of d c = cond (asks c.kind Srst) (control d c Srst SrstPolarity) (cond (asks c.kind Arst) (control d c Arst ArstPolarity) (never d))

-- the reset value, or D where there is no reset
abbrev pub value_of : DesignOf → CellOf → List ℕ
value_of d c = cond (asks c.kind Srst) (parameter_places d c SrstValue) (cond (asks c.kind Arst) (parameter_places d c ArstValue) (signal_places d (signal_at c.ports D)))

-- a register that keeps the row at q, by its line of the table
abbrev pub table_register : DesignOf → CellOf → List ℕ → RegisterOf
table_register d c q = record {
  q = q;
  d = signal_places d (signal_at c.ports D);
  value = value_of d c;
  enable = enable_of d c;
  reset = reset_of d c;
  reset_first = is_reset_value (next_state c.kind false true);
}

-- a register that takes this row in each cycle
abbrev pub plain_register : DesignOf → List ℕ → List ℕ → RegisterOf
plain_register d q row = record { q = q; d = row; value = row; enable = always d; reset = never d; reset_first = false }

-- a register takes its line of the table, `$anyconst` keeps its row, `$initstate` takes 0; the other cells keep nothing
abbrev pub registers_of_role : Role → DesignOf → ℕ → CellOf → List RegisterOf
registers_of_role Combinational d i c = []
registers_of_role Register d i c = table_register d c (signal_places d (output_of c)) ∷ []
registers_of_role AsyncResetRegister d i c = table_register d c (kept_places d i (length (output_of c))) ∷ []
registers_of_role Constant d i c = plain_register d (signal_places d (output_of c)) (signal_places d (output_of c)) ∷ []
registers_of_role Initial d i c = plain_register d (signal_places d (output_of c)) (zero_place d ∷ []) ∷ []
registers_of_role Source d i c = []
registers_of_role Statement d i c = []
registers_of_role Unsupported d i c = []

abbrev pub registers_of : DesignOf → ℕ × CellOf → List RegisterOf
registers_of d (i, c) = registers_of_role (role_of c.kind) d i c

-- state bit k of the cell at place i starts with the digit x
abbrev pub BeginsWith : Role → DesignOf → ℕ → ℕ → Bool → Type 0
BeginsWith Combinational d i k x = ⊥
BeginsWith Register d i k x = IsStart d i k x
BeginsWith AsyncResetRegister d i k x = IsStart d i k x
BeginsWith Constant d i k x = ⊥
BeginsWith Initial d i k x = x ≡ true
BeginsWith Source d i k x = ⊥
BeginsWith Statement d i k x = ⊥
BeginsWith Unsupported d i k x = ⊥

-- for each state bit of the cell at place i the digit that it starts with, or that it starts with none
pub record AreDigits (d : DesignOf) (i : ℕ) (c : CellOf) (digits : List (Option Bool)) : Type 0 where
  pub size : length digits ≡ length (state_of (i, c))
  pub each : (k : ℕ) (x : Bool) → k < length digits → (slice_get digits k ≡ Some (Some x)) ↔ BeginsWith (role_of c.kind) d i k x

-- the digits of these cells' state bits, cell by cell
abbrev pub AreStarts : DesignOf → List (ℕ × CellOf) → List (Option Bool) → Type 0
AreStarts d [] starts = starts ≡ []
AreStarts d ((i, c) ∷ cells) starts = (digits : List (Option Bool)) × (rest : List (Option Bool)) × (starts ≡ digits ++ rest) × AreDigits d i c digits × AreStarts d cells rest

-- D, the reset value and the output have one width
pub record HasOneWidth (x : DesignOf) (c : CellOf) : Type 0 where
  pub d : length (signal_at c.ports D) ≡ length (output_of c)
  pub value : length (value_of x c) ≡ length (output_of c)

-- these registers were added, with the digits that the cell's state bits start with
abbrev pub IsRegistered : DesignOf → ℕ → CellOf → List RegisterOf → ModelOf → ModelOf → Type 0
IsRegistered d i c registers old new =
    (digits : List (Option Bool)) × AreDigits d i c digits × (new ≡ record old { registers = old.registers ++ registers; starts = old.starts ++ digits })
