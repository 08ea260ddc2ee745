-- What a cell's line of the table asks of its parameters and ports, and which bits it drives.
use Rattle.std.specs.Prelude.{◌≡◌, ℕ, ◌+◌, Bool, true, false, not, eqb, leb, ◌&&◌, List, [], length, Option, Some, None, Contains}
use Rattle.std.specs.List.{list_all, list_any}
use Rattle.cell_table.specs.declared.kind.Kind.{Kind}
use Rattle.cell_table.specs.declared.kind.Kind.TheVariants.{Unary as UnaryCell, Binary as BinaryCell, Reduce as ReduceCell, Logic as LogicCell, Compare as CompareCell, ShiftLeft, ShiftRight, ShiftSign, ShiftAny, Divide as DivideCell, Mux, Pmux, Bmux, Slice, Concat, Ff, Dff, Dffe, Sdff, Sdffe, Sdffce, Adff, Adffe, Statement as StatementCell, Any as AnyCell, InitState, LeftOut as LeftOutCell, Unknown}
use Rattle.design_signals.specs.declared.sig_bit.SigBit.{SigBit}
use Rattle.design_core.specs.Digits.{is_number, is_value, digits_number}
use Rattle.design_core.specs.Ports.{is_port, signal_at, digits_at}
use Rattle.design_core.specs.Shape.{CellOf}
use Rattle.design_core.specs.Table.{role_of, output_port, form_of, parameters_of, ports_of, width_of}
use Rattle.design_core.specs.declared.digit.Digit.{Digit}
use Rattle.design_core.specs.declared.names.PortName.{PortName}
use Rattle.design_core.specs.declared.names.ParameterName.{ParameterName}
use Rattle.design_core.specs.declared.names.ParameterName.TheVariants.{AWidth, YWidth, Width as WidthP, Offset}
use Rattle.design_core.specs.declared.parts.Parameter.{Parameter}
use Rattle.design_core.specs.declared.table.ParameterForm.{ParameterForm}
use Rattle.design_core.specs.declared.table.ParameterForm.TheVariants.{Flag, Number, Width, Value}
use Rattle.design_core.specs.declared.table.PortLine.{PortLine}

abbrev pub are_number : Option (List Digit) → Bool
are_number None = false
are_number (Some digits) = is_number digits

abbrev pub number_of : Option (List Digit) → ℕ
number_of None = 0
number_of (Some digits) = digits_number digits

abbrev pub count_of : Option (List Digit) → ℕ
count_of None = 0
count_of (Some digits) = length digits

abbrev pub are_values : Option (List Digit) → Bool
are_values None = false
are_values (Some digits) = list_all is_value digits

-- the parameter is there and has no digit but 0 and 1; its number
abbrev pub has_number : List Parameter → ParameterName → Bool
has_number ps name = are_number (digits_at ps name)

abbrev pub number_at : List Parameter → ParameterName → ℕ
number_at ps name = number_of (digits_at ps name)

-- the parameter is there and is as its form asks
abbrev pub has_form : List Parameter → ParameterName → ParameterForm → Bool
has_form ps name Flag = has_number ps name
has_form ps name Number = has_number ps name
has_form ps name Width = has_number ps name && not (eqb (number_at ps name) 0)
has_form ps name Value = are_values (digits_at ps name) && eqb (count_of (digits_at ps name)) (number_at ps WidthP)

-- the bits that `$slice` takes stand inside A
abbrev pub is_inside : Kind → List Parameter → Bool
is_inside (UnaryCell k) ps = true
is_inside (BinaryCell k) ps = true
is_inside (ReduceCell k) ps = true
is_inside (LogicCell k) ps = true
is_inside (CompareCell k) ps = true
is_inside ShiftLeft ps = true
is_inside ShiftRight ps = true
is_inside ShiftSign ps = true
is_inside ShiftAny ps = true
is_inside (DivideCell k) ps = true
is_inside Mux ps = true
is_inside Pmux ps = true
is_inside Bmux ps = true
is_inside Slice ps = leb (number_at ps Offset + number_at ps YWidth) (number_at ps AWidth)
is_inside Concat ps = true
is_inside Ff ps = true
is_inside Dff ps = true
is_inside Dffe ps = true
is_inside Sdff ps = true
is_inside Sdffe ps = true
is_inside Sdffce ps = true
is_inside Adff ps = true
is_inside Adffe ps = true
is_inside (StatementCell k) ps = true
is_inside (AnyCell k) ps = true
is_inside InitState ps = true
is_inside (LeftOutCell k) ps = true
is_inside Unknown ps = true

-- each parameter that the table names for the type is there and is as it asks
abbrev pub has_parameters : Kind → List Parameter → Bool
has_parameters k ps = list_all (λ name. has_form ps name (form_of name)) (parameters_of k) && is_inside k ps

-- the cell has a port of that line, and its signal has that width
pub record HasPort (c : CellOf) (l : PortLine) : Type 0 where
  pub there : list_any (λ p. is_port p.name l.name) c.ports ≡ true
  pub wide : length (signal_at c.ports l.name) ≡ width_of (number_at c.parameters) l.width

-- the cell has just the ports of its line, each of its width
pub record HasPorts (c : CellOf) : Type 0 where
  pub all : (l : PortLine) → Contains (ports_of c.kind) l → HasPort c l
  pub only : list_all (λ p. list_any (λ l. is_port p.name l.name) (ports_of c.kind)) c.ports ≡ true
  pub no_other : c.foreign ≡ []

abbrev pub signal_of : CellOf → Option PortName → List SigBit
signal_of c None = []
signal_of c (Some name) = signal_at c.ports name

-- the bits that a cell drives
abbrev pub output_of : CellOf → List SigBit
output_of c = signal_of c (output_port (role_of c.kind))
