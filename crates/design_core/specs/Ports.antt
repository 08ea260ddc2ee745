-- The ports and the parameters of a cell, by their names.
use Rattle.std.specs.Prelude.{ℕ, Bool, true, not, eqb, ◌&&◌, List, [], ◌∷◌, Option, Some, None}
use Rattle.std.specs.List.{list_any, find}
use Rattle.cell_table.specs.declared.kind.Kind.{Kind}
use Rattle.design_signals.specs.declared.sig_bit.SigBit.{SigBit}
use Rattle.design_core.specs.Table.{parameters_of}
use Rattle.design_core.specs.declared.digit.Digit.{Digit}
use Rattle.design_core.specs.declared.names.PortName.{PortName}
use Rattle.design_core.specs.declared.names.PortName.TheVariants.{A, B, S, En, Y, Clk, D, Q, Srst, Arst}
use Rattle.design_core.specs.declared.names.ParameterName.{ParameterName}
use Rattle.design_core.specs.declared.names.ParameterName.TheVariants.{ASigned, AWidth, BSigned, BWidth, YWidth, Width, SWidth, Offset, ClkPolarity, EnPolarity, SrstPolarity, SrstValue, ArstPolarity, ArstValue}
use Rattle.design_core.specs.declared.parts.Port.{Port}
use Rattle.design_core.specs.declared.parts.Parameter.{Parameter}

-- each name has a number of its own
abbrev pub port_number : PortName → ℕ
port_number A = 0
port_number B = 1
port_number S = 2
port_number En = 3
port_number Y = 4
port_number Clk = 5
port_number D = 6
port_number Q = 7
port_number Srst = 8
port_number Arst = 9

abbrev pub parameter_number : ParameterName → ℕ
parameter_number ASigned = 0
parameter_number AWidth = 1
parameter_number BSigned = 2
parameter_number BWidth = 3
parameter_number YWidth = 4
parameter_number Width = 5
parameter_number SWidth = 6
parameter_number Offset = 7
parameter_number ClkPolarity = 8
parameter_number EnPolarity = 9
parameter_number SrstPolarity = 10
parameter_number SrstValue = 11
parameter_number ArstPolarity = 12
parameter_number ArstValue = 13

-- two names are one
abbrev pub is_port : PortName → PortName → Bool
is_port p q = eqb (port_number p) (port_number q)

abbrev pub is_parameter : ParameterName → ParameterName → Bool
is_parameter p q = eqb (parameter_number p) (parameter_number q)

-- the table names the parameter for the type
abbrev pub names_parameter : Kind → ParameterName → Bool
names_parameter k name = list_any (λ p. is_parameter p name) (parameters_of k)

-- no item has the number of a later one
abbrev pub are_distinct : {X : Type 0} → (X → ℕ) → List X → Bool
are_distinct number [] = true
are_distinct number (x ∷ xs) = not (list_any (λ y. eqb (number x) (number y)) xs) && are_distinct number xs

-- the signal of the port of that name, or no bits
abbrev pub signal_in : Option Port → List SigBit
signal_in None = []
signal_in (Some p) = p.signal

abbrev pub signal_at : List Port → PortName → List SigBit
signal_at ports name = signal_in (find (λ p. is_port p.name name) ports)

-- the digits of the parameter of that name
abbrev pub digits_of : Option Parameter → Option (List Digit)
digits_of None = None
digits_of (Some p) = Some p.digits

abbrev pub digits_at : List Parameter → ParameterName → Option (List Digit)
digits_at parameters name = digits_of (find (λ p. is_parameter p.name name) parameters)
