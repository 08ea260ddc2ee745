-- What each combinational cell gives, and what each cell with a state holds next, by the table of cells: whole numbers over rows.
use Rattle.std.specs.Prelude.{ℕ, max, Bool, false, cond, not, eqb, [], ◌∷◌, ◌++◌, ℤ}
use Rattle.sby_bits.specs.Rows.{Row, num, value}
use Rattle.cell_table.specs.Cells.{unary_fn, binary_fn, is_reduced, is_logic, is_compared, left_shift_fn, right_shift_fn, sign_shift_fn, any_shift_fn, divide_fn, mux_fn, pmux_fn, bmux_fn, slice_fn, bit_row}
use Rattle.cell_table.specs.declared.kind.Any.TheVariants.{Const as AnyConst, Seq as AnySeq}
use Rattle.cell_table.specs.declared.kind.Kind.{Kind}
use Rattle.cell_table.specs.declared.kind.Kind.TheVariants.{Unary as UnaryCell, Binary as BinaryCell, Reduce as ReduceCell, Logic as LogicCell, Compare as CompareCell, ShiftLeft, ShiftRight, ShiftSign, ShiftAny, Divide as DivideCell, Mux, Pmux, Bmux, Slice, Concat, Ff, Dff, Dffe, Sdff, Sdffe, Sdffce, Adff, Adffe, Statement as StatementCell, Any as AnyCell, InitState, LeftOut as LeftOutCell, Unknown}
use Rattle.design_core.specs.Table.{role_of}
use Rattle.design_core.specs.declared.names.PortName.{PortName}
use Rattle.design_core.specs.declared.names.PortName.TheVariants.{A, B, S, En, D, Srst, Arst}
use Rattle.design_core.specs.declared.names.ParameterName.{ParameterName}
use Rattle.design_core.specs.declared.names.ParameterName.TheVariants.{ASigned, AWidth, BSigned, BWidth, YWidth, Width, Offset, EnPolarity, SrstPolarity, SrstValue, ArstPolarity, ArstValue}
use Rattle.design_core.specs.declared.table.Role.{Role}
use Rattle.design_core.specs.declared.table.Role.TheVariants.{Combinational, Register, AsyncResetRegister, Constant, Initial, Source, Statement, Unsupported}
use Rattle.design_core.specs.declared.next.NextState.{NextState}
use Rattle.design_core.specs.declared.next.NextState.TheVariants.{Data, ResetValue, Held, Zero, Stateless}

-- the rows of a cell's parameters, and of its ports, in one cycle
abbrev pub Parameters : Type 0
Parameters = ParameterName → Row

abbrev pub Ports : Type 0
Ports = PortName → Row

-- a row as a flag: 1 where its number isn't 0
abbrev pub is_set : Row → Bool
is_set r = not (eqb (num r) 0)

-- the operands as whole numbers, each by its own sign
abbrev pub operand_a : Parameters → Ports → ℤ
operand_a p i = value (is_set (p ASigned)) (i A)

abbrev pub operand_b : Parameters → Ports → ℤ
operand_b p i = value (is_set (p BSigned)) (i B)

-- the width of the result; the larger of A's and B's widths; the larger of A's and the result's
abbrev pub result_width : Parameters → ℕ
result_width p = num (p YWidth)

abbrev pub compared_width : Parameters → ℕ
compared_width p = max (num (p AWidth)) (num (p BWidth))

abbrev pub shifted_width : Parameters → ℕ
shifted_width p = max (num (p AWidth)) (num (p YWidth))

-- the output row of a combinational cell; the other types give no row
abbrev pub cell_fn : Kind → Parameters → Ports → Row
cell_fn (UnaryCell k) p i = unary_fn k (result_width p) (operand_a p i)
cell_fn (BinaryCell k) p i = binary_fn k (result_width p) (operand_a p i) (operand_b p i)
cell_fn (ReduceCell k) p i = bit_row (result_width p) (is_reduced k (i A))
cell_fn (LogicCell k) p i = bit_row (result_width p) (is_logic k (i A) (i B))
cell_fn (CompareCell k) p i = bit_row (result_width p) (is_compared k (compared_width p) (operand_a p i) (operand_b p i))
cell_fn ShiftLeft p i = left_shift_fn (result_width p) (operand_a p i) (num (i B))
cell_fn ShiftRight p i = right_shift_fn (result_width p) (shifted_width p) (operand_a p i) (num (i B))
cell_fn ShiftSign p i = sign_shift_fn (result_width p) (operand_a p i) (num (i B))
cell_fn ShiftAny p i = any_shift_fn (result_width p) (shifted_width p) (operand_a p i) (operand_b p i)
cell_fn (DivideCell k) p i = divide_fn k (result_width p) (operand_a p i) (operand_b p i)
cell_fn Mux p i = mux_fn (i A) (i B) (is_set (i S))
cell_fn Pmux p i = pmux_fn (num (p Width)) (i A) (i B) (i S)
cell_fn Bmux p i = bmux_fn (num (p Width)) (i A) (i S)
cell_fn Slice p i = slice_fn (result_width p) (num (p Offset)) (i A)
cell_fn Concat p i = i A ++ i B
cell_fn Ff p i = []
cell_fn Dff p i = []
cell_fn Dffe p i = []
cell_fn Sdff p i = []
cell_fn Sdffe p i = []
cell_fn Sdffce p i = []
cell_fn Adff p i = []
cell_fn Adffe p i = []
cell_fn (StatementCell k) p i = []
cell_fn (AnyCell k) p i = []
cell_fn InitState p i = []
cell_fn (LeftOutCell k) p i = []
cell_fn Unknown p i = []

-- a control bit is at its active level
abbrev pub is_active : Row → Row → Bool
is_active polarity bit = cond (is_set polarity) (is_set bit) (not (is_set bit))

-- what a cell holds next, by whether it is enabled and whether it is reset: the reset decides first, but for `$sdffce`
abbrev pub next_state : Kind → Bool → Bool → NextState
next_state Ff enabled reset = Data
next_state Dff enabled reset = Data
next_state Dffe enabled reset = cond enabled Data Held
next_state Sdff enabled reset = cond reset ResetValue Data
next_state Sdffe enabled reset = cond reset ResetValue (cond enabled Data Held)
next_state Sdffce enabled reset = cond enabled (cond reset ResetValue Data) Held
next_state Adff enabled reset = cond reset ResetValue Data
next_state Adffe enabled reset = cond reset ResetValue (cond enabled Data Held)
next_state (AnyCell AnyConst) enabled reset = Held
next_state (AnyCell AnySeq) enabled reset = Stateless
next_state InitState enabled reset = Zero
next_state (UnaryCell k) enabled reset = Stateless
next_state (BinaryCell k) enabled reset = Stateless
next_state (ReduceCell k) enabled reset = Stateless
next_state (LogicCell k) enabled reset = Stateless
next_state (CompareCell k) enabled reset = Stateless
next_state ShiftLeft enabled reset = Stateless
next_state ShiftRight enabled reset = Stateless
next_state ShiftSign enabled reset = Stateless
next_state ShiftAny enabled reset = Stateless
next_state (DivideCell k) enabled reset = Stateless
next_state Mux enabled reset = Stateless
next_state Pmux enabled reset = Stateless
next_state Bmux enabled reset = Stateless
next_state Slice enabled reset = Stateless
next_state Concat enabled reset = Stateless
next_state (StatementCell k) enabled reset = Stateless
next_state (LeftOutCell k) enabled reset = Stateless
next_state Unknown enabled reset = Stateless

-- whether a cell is enabled; whether it is reset, and to what: by ARST where the reset shows at once, else by SRST
abbrev pub is_enabled : Parameters → Ports → Bool
is_enabled p i = is_active (p EnPolarity) (i En)

abbrev pub is_reset : Role → Parameters → Ports → Bool
is_reset Combinational p i = false
is_reset Register p i = is_active (p SrstPolarity) (i Srst)
is_reset AsyncResetRegister p i = is_active (p ArstPolarity) (i Arst)
is_reset Constant p i = false
is_reset Initial p i = false
is_reset Source p i = false
is_reset Statement p i = false
is_reset Unsupported p i = false

abbrev pub reset_value : Role → Parameters → Row
reset_value Combinational p = []
reset_value Register p = p SrstValue
reset_value AsyncResetRegister p = p ArstValue
reset_value Constant p = []
reset_value Initial p = []
reset_value Source p = []
reset_value Statement p = []
reset_value Unsupported p = []

abbrev pub next_row : NextState → Row → Row → Row → Row
next_row Data d reset held = d
next_row ResetValue d reset held = reset
next_row Held d reset held = held
next_row Zero d reset held = false ∷ []
next_row Stateless d reset held = []

-- what a cell that holds a row holds in the next cycle
abbrev pub next_fn : Kind → Parameters → Ports → Row → Row
next_fn k p i held = next_row (next_state k (is_enabled p i) (is_reset (role_of k) p i)) (i D) (reset_value (role_of k) p) held
