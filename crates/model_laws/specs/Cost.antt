-- What a design costs for each frame.
use Rattle.std.specs.Prelude.{ℕ, ◌+◌, ◌*◌, Bool, true, false, cond, length}
use Rattle.std.specs.List.{sum_by}
use Rattle.cell_table.specs.declared.kind.Kind.{Kind}
use Rattle.cell_table.specs.declared.kind.Kind.TheVariants.{Unary as UnaryCell, Binary as BinaryCell, Reduce as ReduceCell, Logic as LogicCell, Compare as CompareCell, ShiftLeft, ShiftRight, ShiftSign, ShiftAny, Divide as DivideCell, Mux, Pmux, Bmux, Slice, Concat, Ff, Dff, Dffe, Sdff, Sdffe, Sdffce, Adff, Adffe, Statement as StatementCell, Any as AnyCell, InitState, LeftOut as LeftOutCell, Unknown}
use Rattle.cell_table.specs.declared.kind.Binary.{Binary}
use Rattle.cell_table.specs.declared.kind.Binary.TheVariants.{And, Or, Xor, Xnor, Add, Sub, Mul}
use Rattle.design_core.specs.Shape.{CellOf, DesignOf, wire_bits}

-- the widths of all ports of a cell, together
abbrev pub port_bits : CellOf → ℕ
port_bits c = sum_by (λ p. length p.signal) c.ports

abbrev pub is_product : Binary → Bool
is_product And = false
is_product Or = false
is_product Xor = false
is_product Xnor = false
is_product Add = false
is_product Sub = false
is_product Mul = true

-- the cells whose circuits grow by the square of their width
abbrev pub is_square : Kind → Bool
is_square (UnaryCell k) = false
is_square (BinaryCell k) = is_product k
is_square (ReduceCell k) = false
is_square (LogicCell k) = false
is_square (CompareCell k) = false
is_square ShiftLeft = true
is_square ShiftRight = true
is_square ShiftSign = true
is_square ShiftAny = true
is_square (DivideCell k) = true
is_square Mux = false
is_square Pmux = false
is_square Bmux = false
is_square Slice = false
is_square Concat = false
is_square Ff = false
is_square Dff = false
is_square Dffe = false
is_square Sdff = false
is_square Sdffe = false
is_square Sdffce = false
is_square Adff = false
is_square Adffe = false
is_square (StatementCell k) = false
is_square (AnyCell k) = false
is_square InitState = false
is_square (LeftOutCell k) = false
is_square Unknown = false

-- 16 for each bit of its ports, and by the square where its circuit does
abbrev pub cell_cost : CellOf → ℕ
cell_cost c = cond (is_square c.kind) (16 * (port_bits c * port_bits c)) (16 * port_bits c)

-- a bound on the variables of one frame
abbrev pub cost : DesignOf → ℕ
cost d = 16 + (wire_bits d + (d.free + sum_by cell_cost d.cells))
