-- A design as a text, line by line: names as they are, signals as bits, constants as digits. It is written without the reader's
-- steps, to compare its grammar with.
use Rattle.std.specs.Prelude.{◌≡◌, ◌≢◌, ℕ, ◌+◌, ◌<◌, ◌≤◌, ◌^◌, Bool, true, false, cond, ◌==◌, IsTrue, IsFalse, List, [], ◌∷◌, ◌++◌, map, filter, flat_map, reverse, length, slice_get, slice_index, Option, Some, None, codes, bytes_eq, decimal, All}
use Rattle.std.specs.List.{AllByRecursion, IsDistinct, join_with_byte, range_with_len}
use Rattle.std.specs.Str.{is_utf8}
use Rattle.cell_table.specs.declared.kind.Kind.{Kind}
use Rattle.cell_table.specs.declared.kind.Kind.TheVariants.{Unary, Binary, Reduce, Logic, Compare, ShiftLeft, ShiftRight, ShiftSign, ShiftAny, Divide, Mux, Pmux, Bmux, Slice, Concat, Ff, Dff, Dffe, Sdff, Sdffe, Sdffce, Adff, Adffe, Statement, Any, InitState, LeftOut, Unknown}
use Rattle.cell_table.specs.declared.kind.Unary.TheVariants as unary
use Rattle.cell_table.specs.declared.kind.Binary.TheVariants as binary
use Rattle.cell_table.specs.declared.kind.Reduce.TheVariants as reduce
use Rattle.cell_table.specs.declared.kind.Logic.TheVariants as logic
use Rattle.cell_table.specs.declared.kind.Compare.TheVariants as compare
use Rattle.cell_table.specs.declared.kind.Divide.TheVariants as divide
use Rattle.cell_table.specs.declared.kind.Statement.TheVariants as statement
use Rattle.cell_table.specs.declared.kind.Any.TheVariants as any
use Rattle.cell_table.specs.declared.kind.LeftOut.TheVariants as leftout
use Rattle.design_signals.specs.declared.sig_bit.SigBit.{SigBit}
use Rattle.design_signals.specs.declared.sig_bit.SigBit.TheVariants.{Wire, Const, Free}
use Rattle.design_core.specs.Names.{parameter_text, port_text}
use Rattle.design_core.specs.Shape.{WireOf, CellOf, ConnectOf, DesignOf, IsDesign, wire_bits}
use Rattle.design_core.specs.declared.digit.Digit.{Digit}
use Rattle.design_core.specs.declared.digit.Digit.TheVariants.{Const as ConstDigit, Free as FreeDigit, Marker}
use Rattle.design_core.specs.declared.names.ParameterName.{ParameterName}
use Rattle.design_core.specs.declared.names.ParameterName.TheVariants.{ASigned, AWidth, BSigned, BWidth, YWidth, Width, SWidth, Offset, ClkPolarity, EnPolarity, SrstPolarity, SrstValue, ArstPolarity, ArstValue}
use Rattle.design_core.specs.declared.names.PortName.{PortName}
use Rattle.design_core.specs.declared.parts.Parameter.{Parameter}
use Rattle.design_core.specs.declared.parts.Port.{Port}
use Rattle.rtlil_lex.specs.Tokens.{begins_name, is_backslash, is_space}
use Rattle.rtlil_constant.specs.Constants.{Word}
use Rattle.design_reader.specs.Grammar.{wire_names}

-- the words of a line
abbrev pub Line : Type 0
Line = List Word

-- ---- constants and signals

abbrev pub binary_digit : Bool → ℕ
binary_digit true = 49
binary_digit false = 48

-- `width'digits`, highest first; without digits an empty string, since `0'` is read in attributes only
abbrev pub constant_word : List ℕ → Word
constant_word [] = codes "\"\""
constant_word (c ∷ digits) = decimal (length (c ∷ digits)) ++ 39 ∷ c ∷ digits

abbrev pub index_word : ℕ → Word
index_word n = 91 ∷ (decimal n ++ 93 ∷ [])

-- the wire's name; a design's signals name only wires that are there
abbrev pub name_in : Option WireOf → Word
name_in None = []
name_in (Some w) = w.name

-- a wire's bit by its index, which counts from 0 at the lowest; a free bit is an x
abbrev pub bit_words : List WireOf → SigBit → Line
bit_words wires (Wire w b) = name_in (slice_get wires w) ∷ index_word b ∷ []
bit_words wires (Const b) = constant_word (binary_digit b ∷ []) ∷ []
bit_words wires (Free n) = constant_word (codes "x") ∷ []

-- a signal: its bits in braces, the highest first
abbrev pub signal_words : List WireOf → List SigBit → Line
signal_words wires signal = codes "{" ∷ (flat_map (bit_words wires) (reverse signal) ++ codes "}" ∷ [])

-- ---- wires

abbrev pub start_character : Option Bool → ℕ
start_character None = 120
start_character (Some b) = binary_digit b

abbrev pub init_line : List (Option Bool) → Line
init_line start = codes "attribute" ∷ codes "\\init" ∷ constant_word (map start_character (reverse start)) ∷ []

-- the number has no meaning here, so each input has 1
abbrev pub input_words : Bool → Line
input_words true = codes "input" ∷ codes "1" ∷ []
input_words false = []

abbrev pub wire_line : WireOf → Line
wire_line w = codes "wire" ∷ codes "width" ∷ decimal w.width ∷ (input_words w.input ++ w.name ∷ [])

abbrev pub wire_lines : WireOf → List Line
wire_lines w = map init_line w.inits ++ wire_line w ∷ []

-- ---- cells and connects

-- a type of this kind; other types of the same kind (`$sshl`, `$shiftx`, `$mem_v2`, other gates, unknown types) aren't printed
abbrev pub kind_text : Kind → Word
kind_text (Unary unary.Not) = codes "$not"
kind_text (Unary unary.Pos) = codes "$pos"
kind_text (Unary unary.Neg) = codes "$neg"
kind_text (Binary binary.And) = codes "$and"
kind_text (Binary binary.Or) = codes "$or"
kind_text (Binary binary.Xor) = codes "$xor"
kind_text (Binary binary.Xnor) = codes "$xnor"
kind_text (Binary binary.Add) = codes "$add"
kind_text (Binary binary.Sub) = codes "$sub"
kind_text (Binary binary.Mul) = codes "$mul"
kind_text (Reduce reduce.And) = codes "$reduce_and"
kind_text (Reduce reduce.Or) = codes "$reduce_or"
kind_text (Reduce reduce.Xor) = codes "$reduce_xor"
kind_text (Reduce reduce.Xnor) = codes "$reduce_xnor"
kind_text (Reduce reduce.Bool) = codes "$reduce_bool"
kind_text (Reduce reduce.Not) = codes "$logic_not"
kind_text (Logic logic.And) = codes "$logic_and"
kind_text (Logic logic.Or) = codes "$logic_or"
kind_text (Compare compare.Eq) = codes "$eq"
kind_text (Compare compare.Ne) = codes "$ne"
kind_text (Compare compare.Eqx) = codes "$eqx"
kind_text (Compare compare.Nex) = codes "$nex"
kind_text (Compare compare.Lt) = codes "$lt"
kind_text (Compare compare.Le) = codes "$le"
kind_text (Compare compare.Gt) = codes "$gt"
kind_text (Compare compare.Ge) = codes "$ge"
kind_text ShiftLeft = codes "$shl"
kind_text ShiftRight = codes "$shr"
kind_text ShiftSign = codes "$sshr"
kind_text ShiftAny = codes "$shift"
kind_text (Divide divide.Div) = codes "$div"
kind_text (Divide divide.Mod) = codes "$mod"
kind_text Mux = codes "$mux"
kind_text Pmux = codes "$pmux"
kind_text Bmux = codes "$bmux"
kind_text Slice = codes "$slice"
kind_text Concat = codes "$concat"
kind_text Ff = codes "$ff"
kind_text Dff = codes "$dff"
kind_text Dffe = codes "$dffe"
kind_text Sdff = codes "$sdff"
kind_text Sdffe = codes "$sdffe"
kind_text Sdffce = codes "$sdffce"
kind_text Adff = codes "$adff"
kind_text Adffe = codes "$adffe"
kind_text (Statement statement.Assert) = codes "$assert"
kind_text (Statement statement.Assume) = codes "$assume"
kind_text (Statement statement.Cover) = codes "$cover"
kind_text (Any any.Const) = codes "$anyconst"
kind_text (Any any.Seq) = codes "$anyseq"
kind_text InitState = codes "$initstate"
kind_text (LeftOut leftout.Memory) = codes "$mem"
kind_text (LeftOut leftout.Dlatch) = codes "$dlatch"
kind_text (LeftOut leftout.Adlatch) = codes "$adlatch"
kind_text (LeftOut leftout.Dlatchsr) = codes "$dlatchsr"
kind_text (LeftOut leftout.Sr) = codes "$sr"
kind_text (LeftOut leftout.Lut) = codes "$lut"
kind_text (LeftOut leftout.Alu) = codes "$alu"
kind_text (LeftOut leftout.Macc) = codes "$macc"
kind_text (LeftOut leftout.Fsm) = codes "$fsm"
kind_text (LeftOut leftout.Tribuf) = codes "$tribuf"
kind_text (LeftOut leftout.Demux) = codes "$demux"
kind_text (LeftOut leftout.Bwmux) = codes "$bwmux"
kind_text (LeftOut leftout.Bweqx) = codes "$bweqx"
kind_text (LeftOut leftout.Divfloor) = codes "$divfloor"
kind_text (LeftOut leftout.Modfloor) = codes "$modfloor"
kind_text (LeftOut leftout.Gate) = codes "$_AND_"
kind_text (LeftOut leftout.Live) = codes "$live"
kind_text (LeftOut leftout.Fair) = codes "$fair"
kind_text (LeftOut leftout.Allconst) = codes "$allconst"
kind_text (LeftOut leftout.Allseq) = codes "$allseq"
kind_text (LeftOut leftout.Check) = codes "$check"
kind_text Unknown = codes "\\unknown"

-- an m for a digit without value, as x, z and - of a flag, number or width are read too
abbrev pub digit_character : Digit → ℕ
digit_character (ConstDigit b) = binary_digit b
digit_character (FreeDigit n) = 120
digit_character Marker = 109

abbrev pub parameter_line : Parameter → Line
parameter_line p = codes "parameter" ∷ (92 ∷ parameter_text p.name) ∷ constant_word (map digit_character (reverse p.digits)) ∷ []

abbrev pub port_line : List WireOf → Port → Line
port_line wires p = codes "connect" ∷ (92 ∷ port_text p.name) ∷ signal_words wires p.signal

-- a foreign port's identifier: its name lost the first `\`, unless `\` or `$` stands after it
abbrev pub identifier : Word → Word
identifier name = cond (begins_name (slice_index name 0)) name (92 ∷ name)

-- the design keeps nothing of its signal
abbrev pub foreign_line : Word → Line
foreign_line name = codes "connect" ∷ identifier name ∷ constant_word (codes "0") ∷ []

-- a cell: parameters, then ports of the table, then the others
abbrev pub cell_lines : List WireOf → CellOf → List Line
cell_lines wires c =
    (codes "cell" ∷ kind_text c.kind ∷ c.name ∷ [])
    ∷ (map parameter_line c.parameters ++ (map (port_line wires) c.ports ++ (map foreign_line c.foreign ++ (codes "end" ∷ []) ∷ [])))

abbrev pub connect_line : List WireOf → ConnectOf → Line
connect_line wires j = codes "connect" ∷ (signal_words wires j.left ++ signal_words wires j.right)

-- ---- the module

-- the connects that stand after this many cells
abbrev pub connects_after : ℕ → List ConnectOf → List ConnectOf
connects_after n connects = filter (λ j. j.cells_before == n) connects

-- what stands after the first n cells: connects before each further cell, and after the last one
abbrev pub items_after : {X : Type 0} → (CellOf → List X) → (ConnectOf → List X) → ℕ → List CellOf → List ConnectOf → List X
items_after cell connect n [] connects = flat_map connect (connects_after n connects)
items_after cell connect n (c ∷ cells) connects = flat_map connect (connects_after n connects) ++ (cell c ++ items_after cell connect (n + 1) cells connects)

abbrev pub items_of : {X : Type 0} → (CellOf → List X) → (ConnectOf → List X) → DesignOf → List X
items_of cell connect d = items_after cell connect 0 d.cells d.connects

-- the design's lines: all wires, then cells and connects in file order
abbrev pub design_lines : DesignOf → List Line
design_lines d =
    (codes "module" ∷ d.name ∷ [])
    ∷ (flat_map wire_lines d.wires ++ (items_of (cell_lines d.wires) (λ j. connect_line d.wires j ∷ []) d ++ (codes "end" ∷ []) ∷ []))

abbrev pub design_words : DesignOf → List Word
design_words d = flat_map (λ l. l) (design_lines d)

-- the words of each line with spaces between them
abbrev pub printed : DesignOf → List ℕ
printed d = flat_map (λ l. join_with_byte 32 l ++ 10 ∷ []) (design_lines d)

-- ---- which designs are read from their printed form

-- an identifier without white space, which is UTF-8
pub record IsIdentifier (w : Word) : Type 0 where
  pub begins : IsTrue (begins_name (slice_index w 0))
  pub visible : AllByRecursion (λ b. IsFalse (is_space b)) w
  pub utf8 : IsTrue (is_utf8 w)

abbrev pub bit_number : SigBit → List ℕ
bit_number (Wire w b) = []
bit_number (Const b) = []
bit_number (Free n) = n ∷ []

abbrev pub digit_number : Digit → List ℕ
digit_number (ConstDigit b) = []
digit_number (FreeDigit n) = n ∷ []
digit_number Marker = []

-- the numbers of free bits as they stand in the lines, from left to right
abbrev pub signal_numbers : List SigBit → List ℕ
signal_numbers signal = flat_map bit_number (reverse signal)

abbrev pub digit_numbers : List Digit → List ℕ
digit_numbers digits = flat_map digit_number (reverse digits)

abbrev pub cell_numbers : CellOf → List ℕ
cell_numbers c = flat_map (λ p. digit_numbers p.digits) c.parameters ++ flat_map (λ p. signal_numbers p.signal) c.ports

abbrev pub connect_numbers : ConnectOf → List ℕ
connect_numbers j = signal_numbers j.left ++ signal_numbers j.right

abbrev pub design_numbers : DesignOf → List ℕ
design_numbers d = items_of cell_numbers connect_numbers d

-- the parameters that are values, in which x, z and - are free bits
abbrev pub is_value : ParameterName → Bool
is_value ASigned = false
is_value AWidth = false
is_value BSigned = false
is_value BWidth = false
is_value YWidth = false
is_value Width = false
is_value SWidth = false
is_value Offset = false
is_value ClkPolarity = false
is_value EnPolarity = false
is_value SrstPolarity = false
is_value SrstValue = true
is_value ArstPolarity = false
is_value ArstValue = true

-- no digit of a flag, a number or a width is a free bit
abbrev pub IsPrintableParameter : Parameter → Type 0
IsPrintableParameter p = IsFalse (is_value p.name) → digit_numbers p.digits ≡ []

-- a name that an identifier leaves, and that no port of the table has
pub record IsForeign (name : Word) : Type 0 where
  pub word : IsIdentifier (identifier name)
  pub shape : IsTrue (is_backslash (slice_index name 0)) → IsTrue (begins_name (slice_index name 1))
  pub other : (p : PortName) → port_text p ≢ name

pub record IsPrintableCell (c : CellOf) : Type 0 where
  pub name : IsIdentifier c.name
  pub parameters : All IsPrintableParameter c.parameters
  pub ports : All (λ p. 0 < length p.signal) c.ports
  pub foreign : All IsForeign c.foreign
  pub one_foreign : IsDistinct bytes_eq c.foreign

-- within the reader's limits, all names identifiers, wires' and cells' distinct, no empty signal, free bits numbered line by line
pub record IsPrintable (d : DesignOf) : Type 0 where
  pub design : IsDesign d
  pub few_bits : wire_bits d + d.free ≤ 2 ^ 20
  pub name : IsIdentifier d.name
  pub wires : All (λ w. IsIdentifier w.name) d.wires
  pub cells : All IsPrintableCell d.cells
  pub connects : All (λ j. (0 < length j.left) × (0 < length j.right)) d.connects
  pub one_wire : IsDistinct bytes_eq (wire_names d.wires)
  pub one_cell : IsDistinct bytes_eq (map (λ c. c.name) d.cells)
  pub numbers : design_numbers d ≡ range_with_len 0 d.free
