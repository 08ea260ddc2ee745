-- The table of cells, one line for each type: what it does in a design, its parameters, and its ports with their widths.
use Rattle.std.specs.Prelude.{ℕ, ◌+◌, ◌*◌, ◌^◌, Bool, true, false, List, [], ◌∷◌, map, Option, Some, None}
use Rattle.std.specs.List.{filter}
use Rattle.cell_table.specs.declared.kind.Unary.TheVariants.{Not, Pos, Neg}
use Rattle.cell_table.specs.declared.kind.Binary.TheVariants.{And, Or, Xor, Xnor, Add, Sub, Mul}
use Rattle.cell_table.specs.declared.kind.Compare.TheVariants.{Eq, Ne, Eqx, Nex, Lt, Le, Gt, Ge}
use Rattle.cell_table.specs.declared.kind.Any.TheVariants.{Const as AnyConst, Seq as AnySeq}
use Rattle.cell_table.specs.declared.kind.Kind.{Kind}
use Rattle.cell_table.specs.declared.kind.Kind.TheVariants.{Unary as UnaryCell, Binary as BinaryCell, Reduce as ReduceCell, Logic as LogicCell, Compare as CompareCell, ShiftLeft, ShiftRight, ShiftSign, ShiftAny, Divide as DivideCell, Mux, Pmux, Bmux, Slice, Concat, Ff, Dff, Dffe, Sdff, Sdffe, Sdffce, Adff, Adffe, Statement as StatementCell, Any as AnyCell, InitState, LeftOut as LeftOutCell, Unknown}
use Rattle.design_core.specs.declared.names.PortName.{PortName}
use Rattle.design_core.specs.declared.names.PortName.TheVariants.{A, B, S, En, Y, Clk, D, Q, Srst, Arst}
use Rattle.design_core.specs.declared.names.ParameterName.{ParameterName}
use Rattle.design_core.specs.declared.names.ParameterName.TheVariants.{ASigned, AWidth, BSigned, BWidth, YWidth, Width as WidthP, SWidth, Offset, ClkPolarity, EnPolarity, SrstPolarity, SrstValue, ArstPolarity, ArstValue}
use Rattle.design_core.specs.declared.table.Role.{Role}
use Rattle.design_core.specs.declared.table.Role.TheVariants.{Combinational, Register, AsyncResetRegister, Constant, Initial, Source, Statement, Unsupported}
use Rattle.design_core.specs.declared.table.ParameterForm.{ParameterForm}
use Rattle.design_core.specs.declared.table.ParameterForm.TheVariants.{Flag, Number, Width, Value}
use Rattle.design_core.specs.declared.table.PortWidth.{PortWidth}
use Rattle.design_core.specs.declared.table.PortWidth.TheVariants.{One, Of, Product, Choice, Sum}
use Rattle.design_core.specs.declared.table.PortLine.{PortLine}

-- what a type does in a design
abbrev pub role_of : Kind → Role
role_of (UnaryCell k) = Combinational
role_of (BinaryCell k) = Combinational
role_of (ReduceCell k) = Combinational
role_of (LogicCell k) = Combinational
role_of (CompareCell k) = Combinational
role_of ShiftLeft = Combinational
role_of ShiftRight = Combinational
role_of ShiftSign = Combinational
role_of ShiftAny = Combinational
role_of (DivideCell k) = Combinational
role_of Mux = Combinational
role_of Pmux = Combinational
role_of Bmux = Combinational
role_of Slice = Combinational
role_of Concat = Combinational
role_of Ff = Register
role_of Dff = Register
role_of Dffe = Register
role_of Sdff = Register
role_of Sdffe = Register
role_of Sdffce = Register
role_of Adff = AsyncResetRegister
role_of Adffe = AsyncResetRegister
role_of (StatementCell k) = Statement
role_of (AnyCell AnyConst) = Constant
role_of (AnyCell AnySeq) = Source
role_of InitState = Initial
role_of (LeftOutCell k) = Unsupported
role_of Unknown = Unsupported

-- the port that a cell drives
abbrev pub output_port : Role → Option PortName
output_port Combinational = Some Y
output_port Register = Some Q
output_port AsyncResetRegister = Some Q
output_port Constant = Some Y
output_port Initial = Some Y
output_port Source = Some Y
output_port Statement = None
output_port Unsupported = None

-- the types with a clock port
abbrev pub is_clocked : Kind → Bool
is_clocked (UnaryCell k) = false
is_clocked (BinaryCell k) = false
is_clocked (ReduceCell k) = false
is_clocked (LogicCell k) = false
is_clocked (CompareCell k) = false
is_clocked ShiftLeft = false
is_clocked ShiftRight = false
is_clocked ShiftSign = false
is_clocked ShiftAny = false
is_clocked (DivideCell k) = false
is_clocked Mux = false
is_clocked Pmux = false
is_clocked Bmux = false
is_clocked Slice = false
is_clocked Concat = false
is_clocked Ff = false
is_clocked Dff = true
is_clocked Dffe = true
is_clocked Sdff = true
is_clocked Sdffe = true
is_clocked Sdffce = true
is_clocked Adff = true
is_clocked Adffe = true
is_clocked (StatementCell k) = false
is_clocked (AnyCell k) = false
is_clocked InitState = false
is_clocked (LeftOutCell k) = false
is_clocked Unknown = false

-- the types whose A_SIGNED and B_SIGNED have to be equal
abbrev pub asks_one_sign : Kind → Bool
asks_one_sign (UnaryCell k) = false
asks_one_sign (BinaryCell k) = true
asks_one_sign (ReduceCell k) = false
asks_one_sign (LogicCell k) = false
asks_one_sign (CompareCell k) = true
asks_one_sign ShiftLeft = false
asks_one_sign ShiftRight = false
asks_one_sign ShiftSign = false
asks_one_sign ShiftAny = false
asks_one_sign (DivideCell k) = true
asks_one_sign Mux = false
asks_one_sign Pmux = false
asks_one_sign Bmux = false
asks_one_sign Slice = false
asks_one_sign Concat = false
asks_one_sign Ff = false
asks_one_sign Dff = false
asks_one_sign Dffe = false
asks_one_sign Sdff = false
asks_one_sign Sdffe = false
asks_one_sign Sdffce = false
asks_one_sign Adff = false
asks_one_sign Adffe = false
asks_one_sign (StatementCell k) = false
asks_one_sign (AnyCell k) = false
asks_one_sign InitState = false
asks_one_sign (LeftOutCell k) = false
asks_one_sign Unknown = false

-- the most bits that a signal of a cell may have: 128 at arithmetic, orders and shifts
abbrev pub width_limit : Kind → ℕ
width_limit (UnaryCell Not) = 4096
width_limit (UnaryCell Pos) = 4096
width_limit (UnaryCell Neg) = 128
width_limit (BinaryCell And) = 4096
width_limit (BinaryCell Or) = 4096
width_limit (BinaryCell Xor) = 4096
width_limit (BinaryCell Xnor) = 4096
width_limit (BinaryCell Add) = 128
width_limit (BinaryCell Sub) = 128
width_limit (BinaryCell Mul) = 128
width_limit (ReduceCell k) = 4096
width_limit (LogicCell k) = 4096
width_limit (CompareCell Eq) = 4096
width_limit (CompareCell Ne) = 4096
width_limit (CompareCell Eqx) = 4096
width_limit (CompareCell Nex) = 4096
width_limit (CompareCell Lt) = 128
width_limit (CompareCell Le) = 128
width_limit (CompareCell Gt) = 128
width_limit (CompareCell Ge) = 128
width_limit ShiftLeft = 128
width_limit ShiftRight = 128
width_limit ShiftSign = 128
width_limit ShiftAny = 128
width_limit (DivideCell k) = 128
width_limit Mux = 4096
width_limit Pmux = 4096
width_limit Bmux = 4096
width_limit Slice = 4096
width_limit Concat = 4096
width_limit Ff = 4096
width_limit Dff = 4096
width_limit Dffe = 4096
width_limit Sdff = 4096
width_limit Sdffe = 4096
width_limit Sdffce = 4096
width_limit Adff = 4096
width_limit Adffe = 4096
width_limit (StatementCell k) = 4096
width_limit (AnyCell k) = 4096
width_limit InitState = 4096
width_limit (LeftOutCell k) = 4096
width_limit Unknown = 4096

-- what a parameter has to be: a flag, a number, a number from 1 on, or a row of digits
abbrev pub form_of : ParameterName → ParameterForm
form_of ASigned = Flag
form_of AWidth = Width
form_of BSigned = Flag
form_of BWidth = Width
form_of YWidth = Width
form_of WidthP = Width
form_of SWidth = Width
form_of Offset = Number
form_of ClkPolarity = Flag
form_of EnPolarity = Flag
form_of SrstPolarity = Flag
form_of SrstValue = Value
form_of ArstPolarity = Flag
form_of ArstValue = Value

-- the parameters of one operand A, of two operands A and B
abbrev pub one_operand : List ParameterName
one_operand = ASigned ∷ AWidth ∷ YWidth ∷ []

abbrev pub two_operands : List ParameterName
two_operands = ASigned ∷ AWidth ∷ BSigned ∷ BWidth ∷ YWidth ∷ []

-- the parameters of the table's line for a type, in the alphabet's order
abbrev pub parameters_of : Kind → List ParameterName
parameters_of (UnaryCell k) = one_operand
parameters_of (BinaryCell k) = two_operands
parameters_of (ReduceCell k) = one_operand
parameters_of (LogicCell k) = two_operands
parameters_of (CompareCell k) = two_operands
parameters_of ShiftLeft = two_operands
parameters_of ShiftRight = two_operands
parameters_of ShiftSign = two_operands
parameters_of ShiftAny = two_operands
parameters_of (DivideCell k) = two_operands
parameters_of Mux = WidthP ∷ []
parameters_of Pmux = WidthP ∷ SWidth ∷ []
parameters_of Bmux = WidthP ∷ SWidth ∷ []
parameters_of Slice = Offset ∷ AWidth ∷ YWidth ∷ []
parameters_of Concat = AWidth ∷ BWidth ∷ []
parameters_of Ff = WidthP ∷ []
parameters_of Dff = ClkPolarity ∷ WidthP ∷ []
parameters_of Dffe = ClkPolarity ∷ EnPolarity ∷ WidthP ∷ []
parameters_of Sdff = ClkPolarity ∷ SrstPolarity ∷ SrstValue ∷ WidthP ∷ []
parameters_of Sdffe = ClkPolarity ∷ EnPolarity ∷ SrstPolarity ∷ SrstValue ∷ WidthP ∷ []
parameters_of Sdffce = ClkPolarity ∷ EnPolarity ∷ SrstPolarity ∷ SrstValue ∷ WidthP ∷ []
parameters_of Adff = ArstPolarity ∷ ArstValue ∷ ClkPolarity ∷ WidthP ∷ []
parameters_of Adffe = ArstPolarity ∷ ArstValue ∷ ClkPolarity ∷ EnPolarity ∷ WidthP ∷ []
parameters_of (StatementCell k) = []
parameters_of (AnyCell k) = WidthP ∷ []
parameters_of InitState = []
parameters_of (LeftOutCell k) = []
parameters_of Unknown = []

-- a width, by what the parameters are
abbrev pub width_of : (ParameterName → ℕ) → PortWidth → ℕ
width_of p One = 1
width_of p (Of x) = p x
width_of p (Product x y) = p x * p y
width_of p (Choice x y) = p x * 2 ^ p y
width_of p (Sum x y) = p x + p y

abbrev pub port : PortName → PortWidth → PortLine
port name width = record { name = name; width = width }

-- the ports of one operand A, of two operands A and B
abbrev pub one_operand_ports : List PortLine
one_operand_ports = port A (Of AWidth) ∷ port Y (Of YWidth) ∷ []

abbrev pub two_operand_ports : List PortLine
two_operand_ports = port A (Of AWidth) ∷ port B (Of BWidth) ∷ port Y (Of YWidth) ∷ []

-- the ports of the table's line for a type
abbrev pub ports_of : Kind → List PortLine
ports_of (UnaryCell k) = one_operand_ports
ports_of (BinaryCell k) = two_operand_ports
ports_of (ReduceCell k) = one_operand_ports
ports_of (LogicCell k) = two_operand_ports
ports_of (CompareCell k) = two_operand_ports
ports_of ShiftLeft = two_operand_ports
ports_of ShiftRight = two_operand_ports
ports_of ShiftSign = two_operand_ports
ports_of ShiftAny = two_operand_ports
ports_of (DivideCell k) = two_operand_ports
ports_of Mux = port A (Of WidthP) ∷ port B (Of WidthP) ∷ port S One ∷ port Y (Of WidthP) ∷ []
ports_of Pmux = port A (Of WidthP) ∷ port B (Product WidthP SWidth) ∷ port S (Of SWidth) ∷ port Y (Of WidthP) ∷ []
ports_of Bmux = port A (Choice WidthP SWidth) ∷ port S (Of SWidth) ∷ port Y (Of WidthP) ∷ []
ports_of Slice = port A (Of AWidth) ∷ port Y (Of YWidth) ∷ []
ports_of Concat = port A (Of AWidth) ∷ port B (Of BWidth) ∷ port Y (Sum AWidth BWidth) ∷ []
ports_of Ff = port D (Of WidthP) ∷ port Q (Of WidthP) ∷ []
ports_of Dff = port Clk One ∷ port D (Of WidthP) ∷ port Q (Of WidthP) ∷ []
ports_of Dffe = port Clk One ∷ port D (Of WidthP) ∷ port En One ∷ port Q (Of WidthP) ∷ []
ports_of Sdff = port Clk One ∷ port D (Of WidthP) ∷ port Q (Of WidthP) ∷ port Srst One ∷ []
ports_of Sdffe = port Clk One ∷ port D (Of WidthP) ∷ port En One ∷ port Q (Of WidthP) ∷ port Srst One ∷ []
ports_of Sdffce = port Clk One ∷ port D (Of WidthP) ∷ port En One ∷ port Q (Of WidthP) ∷ port Srst One ∷ []
ports_of Adff = port Arst One ∷ port Clk One ∷ port D (Of WidthP) ∷ port Q (Of WidthP) ∷ []
ports_of Adffe = port Arst One ∷ port Clk One ∷ port D (Of WidthP) ∷ port En One ∷ port Q (Of WidthP) ∷ []
ports_of (StatementCell k) = port A One ∷ port En One ∷ []
ports_of (AnyCell k) = port Y (Of WidthP) ∷ []
ports_of InitState = port Y One ∷ []
ports_of (LeftOutCell k) = []
ports_of Unknown = []

-- the port isn't an output
abbrev pub is_input : PortName → Bool
is_input A = true
is_input B = true
is_input S = true
is_input En = true
is_input Y = false
is_input Clk = true
is_input D = true
is_input Q = false
is_input Srst = true
is_input Arst = true

-- the ports on whose bits each bit of the output rests in the same cycle: a combinational cell's inputs, and the reset that shows
-- at a register's output at once
abbrev pub ports_in_cycle : Role → List PortName → List PortName
ports_in_cycle Combinational names = filter is_input names
ports_in_cycle Register names = []
ports_in_cycle AsyncResetRegister names = Arst ∷ []
ports_in_cycle Constant names = []
ports_in_cycle Initial names = []
ports_in_cycle Source names = []
ports_in_cycle Statement names = []
ports_in_cycle Unsupported names = []

abbrev pub ports_read : Kind → List PortName
ports_read k = ports_in_cycle (role_of k) (map (λ l. l.name) (ports_of k))
