-- What the table says of a type, as nodes and registers need it.
use Rattle.std.specs.Prelude.{ℕ, Bool, true, false}
use Rattle.std.specs.List.{list_any}
use Rattle.cell_table.specs.declared.kind.Kind.{Kind}
use Rattle.cell_table.specs.declared.kind.Kind.TheVariants.{Unary as UnaryCell, Binary as BinaryCell, Reduce as ReduceCell, Logic as LogicCell, Compare as CompareCell, ShiftLeft, ShiftRight, ShiftSign, ShiftAny, Divide as DivideCell, Mux, Pmux, Bmux, Slice, Concat, Ff, Dff, Dffe, Sdff, Sdffe, Sdffce, Adff, Adffe, Statement as StatementCell, Any as AnyCell, InitState, LeftOut as LeftOutCell, Unknown}
use Rattle.design_core.specs.Ports.{is_port}
use Rattle.design_core.specs.Table.{ports_of}
use Rattle.design_core.specs.declared.names.PortName.{PortName}
use Rattle.design_core.specs.declared.next.NextState.{NextState}
use Rattle.design_core.specs.declared.next.NextState.TheVariants.{Data, ResetValue, Held, Zero, Stateless}
use Rattle.model_core.specs.declared.op.Op.{Op}
use Rattle.model_core.specs.declared.op.Op.TheVariants as op

-- what a cell of a type does with its operands, by its flags A_SIGNED and B_SIGNED and its OFFSET; the other types do nothing
abbrev pub op_of_kind : Kind → Bool → Bool → ℕ → Op
op_of_kind (UnaryCell k) a b offset = op.Unary k a
op_of_kind (BinaryCell k) a b offset = op.Binary k a
op_of_kind (ReduceCell k) a b offset = op.Reduce k
op_of_kind (LogicCell k) a b offset = op.Logic k
op_of_kind (CompareCell k) a b offset = op.Compare k a
op_of_kind ShiftLeft a b offset = op.ShiftLeft a
op_of_kind ShiftRight a b offset = op.ShiftRight a
op_of_kind ShiftSign a b offset = op.ShiftSign a
op_of_kind ShiftAny a b offset = op.ShiftAny a b
op_of_kind (DivideCell k) a b offset = op.Divide k a
op_of_kind Mux a b offset = op.Mux
op_of_kind Pmux a b offset = op.Pmux
op_of_kind Bmux a b offset = op.Bmux
op_of_kind Slice a b offset = op.Slice offset
op_of_kind Concat a b offset = op.Concat
op_of_kind Ff a b offset = op.Copy
op_of_kind Dff a b offset = op.Copy
op_of_kind Dffe a b offset = op.Copy
op_of_kind Sdff a b offset = op.Copy
op_of_kind Sdffe a b offset = op.Copy
op_of_kind Sdffce a b offset = op.Copy
op_of_kind Adff a b offset = op.Copy
op_of_kind Adffe a b offset = op.Copy
op_of_kind (StatementCell k) a b offset = op.Copy
op_of_kind (AnyCell k) a b offset = op.Copy
op_of_kind InitState a b offset = op.Copy
op_of_kind (LeftOutCell k) a b offset = op.Copy
op_of_kind Unknown a b offset = op.Copy

-- the table asks a port of this name of the type
abbrev pub asks : Kind → PortName → Bool
asks k name = list_any (λ l. is_port l.name name) (ports_of k)

-- the next row is the reset value
abbrev pub is_reset_value : NextState → Bool
is_reset_value Data = false
is_reset_value ResetValue = true
is_reset_value Held = false
is_reset_value Zero = false
is_reset_value Stateless = false
