-- What the table's lines of `$adff` and `$adffe` ask.
use Rattle.std.specs.Prelude.{◌≡◌, ℕ, ◌<◌, true, Bool, List, [], length}
use Rattle.std.specs.List.{list_any, list_all}
use Rattle.cell_table.specs.declared.kind.Kind.{Kind}
use Rattle.design_core.specs.Asked.{are_values, count_of, has_number, number_at}
use Rattle.design_core.specs.Ports.{is_port, signal_at, digits_at}
use Rattle.design_core.specs.Shape.{CellOf}
use Rattle.design_core.specs.Table.{ports_of}
use Rattle.design_core.specs.declared.names.PortName.{PortName}
use Rattle.design_core.specs.declared.names.PortName.TheVariants.{D, Q, En, Clk, Arst}
use Rattle.design_core.specs.declared.names.ParameterName.TheVariants.{Width, ClkPolarity, EnPolarity, ArstPolarity, ArstValue}
use Rattle.design_core.specs.declared.parts.Parameter.{Parameter}

-- the parameters of both types
pub record HasReset (ps : List Parameter) : Type 0 where
  pub polarity : has_number ps ArstPolarity ≡ true
  pub values : are_values (digits_at ps ArstValue) ≡ true
  pub count : count_of (digits_at ps ArstValue) ≡ number_at ps Width
  pub clock : has_number ps ClkPolarity ≡ true
  pub width : has_number ps Width ≡ true
  pub some : 0 < number_at ps Width

-- the cell has a port of this name and width
pub record HasSignal (c : CellOf) (name : PortName) (width : ℕ) : Type 0 where
  pub there : list_any (λ p. is_port p.name name) c.ports ≡ true
  pub wide : length (signal_at c.ports name) ≡ width

-- the ports of both types
pub record HasSignals (c : CellOf) (width : ℕ) : Type 0 where
  pub reset : HasSignal c Arst 1
  pub clock : HasSignal c Clk 1
  pub taken : HasSignal c D width
  pub shown : HasSignal c Q width

-- each port is one of the type's line
abbrev pub has_only : Kind → CellOf → Bool
has_only k c = list_all (λ p. list_any (λ l. is_port p.name l.name) (ports_of k)) c.ports

-- the ports of both types, and no other than the type's line names
pub record HasLine (k : Kind) (c : CellOf) (width : ℕ) : Type 0 where
  pub signals : HasSignals c width
  pub only : has_only k c ≡ true
  pub no_other : c.foreign ≡ []

-- the enable of `$adffe`
pub record HasEnabling (c : CellOf) : Type 0 where
  pub polarity : has_number c.parameters EnPolarity ≡ true
  pub enable : HasSignal c En 1
