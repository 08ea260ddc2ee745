-- RTLIL text in the terms of the Yosys manual: what may come next at each spot, and what each word makes of what is read
-- so far. Rows of bits stand as written here, highest first.
use Rattle.std.specs.Prelude.{◌≡◌, ℕ, ◌+◌, ◌≤◌, ◌^◌, Bool, true, false, cond, ◌&&◌, ◌||◌, ◌==◌, nat_lt, nat_le, List, [], ◌∷◌, ◌++◌, map, reverse, length, take, slice_index, slice_get, position, Option, Some, None, Result, Ok, Err, codes, bytes_eq, unwrap_or, is_some}
use Rattle.std.specs.List.{list_any}
use Rattle.std.specs.Str.{is_utf8}
use Rattle.rtlil_lex.specs.Tokens.{begins_name, TokenOf, IsTokens}
use Rattle.design_core.specs.Ports.{is_parameter, is_port, names_parameter}
use Rattle.design_core.specs.Shape.{WireOf, CellOf, DesignOf, wire_bits}
use Rattle.design_core.specs.Table.{form_of}
use Rattle.design_core.specs.declared.names.PortName.{PortName}
use Rattle.design_core.specs.declared.names.ParameterName.{ParameterName}
use Rattle.design_core.specs.declared.table.ParameterForm.{ParameterForm}
use Rattle.design_core.specs.declared.table.ParameterForm.TheVariants.{Flag, Number, Width as WidthForm, Value as ValueForm}
use Rattle.cell_table.specs.declared.kind.Kind.{Kind}
use Rattle.design_signals.specs.Parts.{wire_row, slice_row}
use Rattle.design_signals.specs.declared.sig_bit.SigBit.{SigBit}
use Rattle.design_signals.specs.declared.sig_bit.SigBit.TheVariants.{Const, Free}
use Rattle.design_core.specs.declared.digit.Digit.{Digit}
use Rattle.design_core.specs.declared.digit.Digit.TheVariants.{Const as ConstDigit, Free as FreeDigit, Marker}
use Rattle.design_reader.specs.Kinds.{kind_of, is_ignored}
use Rattle.design_reader.specs.Labels.{bare, known_parameter, known_port}
use Rattle.rtlil_constant.specs.Constants.{Word, number_of, unsigned, is_open, is_marker, open_digits, constant_of, slice_of}
use Rattle.design_reader.specs.Parts.{AttributesOf, no_attributes, CellDraftOf, DraftOf}
use Rattle.design_reader.specs.declared.fault.ReadFaultKind.{ReadFaultKind}
use Rattle.design_reader.specs.declared.fault.ReadFaultKind.TheVariants.{Limit, Syntax, NotUtf8Name, DoubleName, UnknownWire, Index, LeftOut, SeveralModules}
use Rattle.design_reader.specs.declared.spot.WireOptions.{WireOptions}
use Rattle.design_reader.specs.declared.spot.NumberedOption.{NumberedOption}
use Rattle.design_reader.specs.declared.spot.NumberedOption.TheVariants.{Width, Offset, Input, Output}
use Rattle.design_reader.specs.declared.spot.Target.{Target}
use Rattle.design_reader.specs.declared.spot.Target.TheVariants.{Port as ToPort, Left, Right}
use Rattle.design_reader.specs.declared.spot.Spot.{Spot}
use Rattle.design_reader.specs.declared.spot.Spot.TheVariants.{File, AutoIdx, FileAttribute, FileValue, Module, Line, Attribute, Value, ModuleParameter, ModuleParameterValue, WireOption, WireNumber, CellType, CellName, CellLine, CellParameter, CellParameterName, CellParameterValue, Port, Signal, Part}

-- what is read so far and what comes next, or a refusal
abbrev pub Outcome : Type 0
Outcome = Result (DraftOf × Spot) ReadFaultKind

abbrev pub goes_on : DraftOf → Spot → Outcome
goes_on d s = Ok (d, s)

infixl 10 ◌⊳◌
abbrev pub ◌⊳◌ : {A B : Type 0} → Result A ReadFaultKind → (A → Result B ReadFaultKind) → Result B ReadFaultKind
(Ok x) ⊳ f = f x
(Err k) ⊳ f = Err k

-- refused by this kind where there is none
abbrev pub needs : {A : Type 0} → ReadFaultKind → Option A → Result A ReadFaultKind
needs k None = Err k
needs k (Some x) = Ok x

-- ---- bits

-- how many bits a design may have
abbrev pub most_bits : ℕ
most_bits = 2 ^ 20

-- its wires' bits and its free bits
abbrev pub bits : DraftOf → ℕ
bits d = wire_bits d.design + d.design.free

-- a digit that no free bit stands for
abbrev pub plain_bit : ℕ → SigBit
plain_bit c = Const (c == 49)

-- the bits of digits; each x, z or - is a free bit of its own, numbered from n on
abbrev pub numbered_bits : ℕ → List ℕ → List SigBit
numbered_bits n [] = []
numbered_bits n (c ∷ digits) = cond (is_open c) (Free n ∷ numbered_bits (n + 1) digits) (plain_bit c ∷ numbered_bits n digits)

-- a parameter's digit that no free bit stands for: 0, 1, or one without a value
abbrev pub plain_digit : ℕ → Digit
plain_digit c = cond (c == 48) (ConstDigit false) (cond (c == 49) (ConstDigit true) Marker)

abbrev pub numbered_digits : ℕ → List ℕ → List Digit
numbered_digits n [] = []
numbered_digits n (c ∷ digits) = cond (is_open c) (FreeDigit n ∷ numbered_digits (n + 1) digits) (plain_digit c ∷ numbered_digits n digits)

abbrev pub row_at : ℕ → Option WireOf → List SigBit
row_at w None = []
row_at w (Some x) = wire_row w x.width

abbrev pub wire_names : List WireOf → List Word
wire_names wires = map (λ w. w.name) wires

-- the place of a name
abbrev pub name_place : List Word → Word → Option ℕ
name_place names name = position (λ n. bytes_eq n name) names

-- why no bits n down to m are in this many bits
abbrev pub slice_fault : ℕ → ℕ → ℕ → Option ReadFaultKind
slice_fault width n m = cond (nat_lt n width && nat_lt m width) (cond (nat_le m n) None (Some Syntax)) (Some Index)

-- refused where there is a fault
abbrev pub granted : {A : Type 0} → Option ReadFaultKind → A → Result A ReadFaultKind
granted None x = Ok x
granted (Some k) x = Err k

abbrev pub sliced : List SigBit → ℕ × ℕ → Result (List SigBit) ReadFaultKind
sliced row (n, m) = granted (slice_fault (length row) n m) (slice_row row n m)

-- what a slice's word leaves of a row
abbrev pub slice_word : List SigBit → Word → Result (List SigBit) ReadFaultKind
slice_word row w = needs Syntax (slice_of w) ⊳ sliced row

abbrev pub start_digit : ℕ → Option Bool
start_digit c = cond (c == 48) (Some false) (cond (c == 49) (Some true) None)

-- the start digits of n bits, lowest first: further digits are left out
abbrev pub start_digits : ℕ → List ℕ → List (Option Bool)
start_digits n digits = map start_digit (take n (reverse digits))

-- ---- parts of a module

-- what a parameter is to a cell: the table's, where it names it for the type
abbrev pub kept_parameter : Kind → Option ParameterName → Option ParameterName
kept_parameter kind None = None
kept_parameter kind (Some p) = cond (names_parameter kind p) (Some p) None

-- a parameter of that name is there: one that is kept, or another
abbrev pub has_parameter : CellDraftOf → Word → Option ParameterName → Bool
has_parameter c name None = list_any (λ n. bytes_eq n name) c.others
has_parameter c name (Some p) = list_any (λ x. is_parameter x.name p) c.cell.parameters

-- a port of that name is there: one that some line of the table names, or another
abbrev pub has_port : CellDraftOf → Word → Option PortName → Bool
has_port c name None = list_any (λ n. bytes_eq n name) c.cell.foreign
has_port c name (Some p) = list_any (λ x. is_port x.name p) c.cell.ports

-- of a parameter that isn't kept the name alone counts
abbrev pub named_parameter : CellDraftOf → Word → Option ParameterName → CellDraftOf
named_parameter c name None = record c { others = c.others ++ name ∷ [] }
named_parameter c name (Some p) = c

-- of a port that no line of the table names the cell has the name alone
abbrev pub named_port : CellDraftOf → Word → Option PortName → CellDraftOf
named_port c name None = record c { cell = record c.cell { foreign = c.cell.foreign ++ name ∷ [] } }
named_port c name (Some p) = c

abbrev pub with_parameter : CellDraftOf → ParameterName → List Digit → CellDraftOf
with_parameter c p digits = record c { cell = record c.cell { parameters = c.cell.parameters ++ record { name = p; digits = digits } ∷ [] } }

abbrev pub with_port : CellDraftOf → Option PortName → List SigBit → CellDraftOf
with_port c None row = c
with_port c (Some p) row = record c { cell = record c.cell { ports = c.cell.ports ++ record { name = p; signal = reverse row } ∷ [] } }

abbrev pub with_free : DraftOf → ℕ → DraftOf
with_free d n = record d { design = record d.design { free = d.design.free + n } }

abbrev pub with_wire : DraftOf → WireOf → DraftOf
with_wire d w = record d { design = record d.design { wires = d.design.wires ++ w ∷ [] } }

abbrev pub with_cell : DraftOf → CellOf → DraftOf
with_cell d c = record d { design = record d.design { cells = d.design.cells ++ c ∷ [] } }

abbrev pub with_connect : DraftOf → List SigBit → List SigBit → DraftOf
with_connect d left right = record d { design = record d.design { connects = d.design.connects ++ record { left = left; right = reverse right; cells_before = length d.design.cells } ∷ [] } }

abbrev pub new_draft : Word → DraftOf
new_draft name = record { design = record { name = name; wires = []; cells = []; connects = []; free = 0 }; cells = [] }

abbrev pub new_cell : Kind → Word → Bool → CellDraftOf
new_cell kind name ignored = record { cell = record { kind = kind; name = name; parameters = []; ports = []; foreign = [] }; others = []; ignored = ignored }

-- the wire of these attributes and options
abbrev pub new_wire : Word → AttributesOf → WireOptions → WireOf
new_wire name a o =
    let width = unwrap_or o.width 1 in
    record { name = name; width = width; input = o.input; inits = map (λ digits. start_digits width digits) a.inits }

-- ---- words that are no names

abbrev pub file_line : DraftOf → Bool → Word → Outcome
file_line d behind w =
    cond (bytes_eq w (codes "autoidx")) (goes_on d (AutoIdx behind))
    (cond (bytes_eq w (codes "attribute")) (goes_on d (FileAttribute behind))
    (cond (bytes_eq w (codes "module")) (cond behind (Err SeveralModules) (goes_on d Module)) (Err Syntax)))

-- a line that no attribute stands before
abbrev pub bare_line : DraftOf → Word → Outcome
bare_line d w =
    cond (bytes_eq w (codes "parameter")) (goes_on d ModuleParameter)
    (cond (bytes_eq w (codes "connect")) (goes_on d (Signal Left []))
    (cond (bytes_eq w (codes "end")) (goes_on d (File true)) (Err Syntax)))

-- a line of the module; a wire has a bit at least, and no module stands in another
unfoldable pub line : DraftOf → AttributesOf → Word → Outcome
line d a w =
    cond (bytes_eq w (codes "attribute")) (goes_on d (Attribute a))
    (cond (bytes_eq w (codes "wire")) (cond (nat_lt (bits d) most_bits) (goes_on d (WireOption a (record { width = None; input = false }))) (Err Limit))
    (cond (bytes_eq w (codes "cell")) (goes_on d CellType)
    (cond (bytes_eq w (codes "memory") || bytes_eq w (codes "process")) (Err LeftOut)
    (cond (bytes_eq w (codes "module")) (Err SeveralModules) (cond a.some (Err Syntax) (bare_line d w))))))

-- the width is given once at most; other options may be repeated
abbrev pub wire_option : DraftOf → AttributesOf → WireOptions → Word → Outcome
wire_option d a o w =
    cond (bytes_eq w (codes "width")) (cond (is_some o.width) (Err Syntax) (goes_on d (WireNumber a o Width)))
    (cond (bytes_eq w (codes "offset")) (goes_on d (WireNumber a o Offset))
    (cond (bytes_eq w (codes "input")) (goes_on d (WireNumber a o Input))
    (cond (bytes_eq w (codes "output")) (goes_on d (WireNumber a o Output))
    (cond (bytes_eq w (codes "inout")) (Err LeftOut)
    (cond (bytes_eq w (codes "upto") || bytes_eq w (codes "signed")) (goes_on d (WireOption a o)) (Err Syntax))))))

abbrev pub wire_width : DraftOf → AttributesOf → WireOptions → ℕ → Outcome
wire_width d a o n =
    cond (n == 0) (Err LeftOut)
    (cond (nat_le (bits d + n) most_bits) (goes_on d (WireOption a (record o { width = Some n }))) (Err Limit))

abbrev pub wire_number : DraftOf → AttributesOf → WireOptions → NumberedOption → Word → Outcome
wire_number d a o Width w = needs Syntax (number_of w) ⊳ wire_width d a o
wire_number d a o Offset w = needs Syntax (number_of (unsigned w)) ⊳ λ n. goes_on d (WireOption a o)
wire_number d a o Input w = needs Syntax (number_of w) ⊳ λ n. goes_on d (WireOption a (record o { input = true }))
wire_number d a o Output w = needs Syntax (number_of w) ⊳ λ n. goes_on d (WireOption a o)

-- an attribute's constant; only `\init` says something
abbrev pub with_attribute : AttributesOf → Bool → List ℕ → AttributesOf
with_attribute a is_init digits = record { some = true; inits = cond is_init (a.inits ++ digits ∷ []) a.inits }

abbrev pub is_form : Word → Bool
is_form w = bytes_eq w (codes "signed") || bytes_eq w (codes "real")

abbrev pub module_value : DraftOf → Word → Option (List ℕ) → Outcome
module_value d w None = line d no_attributes w
module_value d w (Some digits) = goes_on d (Line no_attributes)

-- a line of a cell; a cell that is ignored leaves only its name
unfoldable pub cell_line : DraftOf → CellDraftOf → Word → Outcome
cell_line d c w =
    cond (bytes_eq w (codes "parameter")) (goes_on d (CellParameter c))
    (cond (bytes_eq w (codes "connect")) (goes_on d (Port c))
    (cond (bytes_eq w (codes "end")) (goes_on (cond c.ignored d (with_cell d c.cell)) (Line no_attributes))
    (cond (bytes_eq w (codes "module")) (Err SeveralModules) (Err Syntax))))

-- the parameters that are rows of bits, in which x, z and - are free bits
abbrev pub is_row : ParameterForm → Bool
is_row Flag = false
is_row Number = false
is_row WidthForm = false
is_row ValueForm = true

abbrev pub takes_free : ParameterName → Bool
takes_free p = is_row (form_of p)

-- a parameter's constant; one that isn't kept numbers no free bits
abbrev pub cell_parameter : DraftOf → CellDraftOf → Option ParameterName → List ℕ → Outcome
cell_parameter d c None digits = goes_on d (CellLine c)
cell_parameter d c (Some p) digits =
    cond (takes_free p)
    (cond (nat_le (bits d + open_digits digits) most_bits)
    (goes_on (with_free d (open_digits digits)) (CellLine (with_parameter c p (reverse (numbered_digits d.design.free digits)))))
    (Err Limit))
    (goes_on d (CellLine (with_parameter c p (map plain_digit (reverse digits)))))

-- a cell that is ignored numbers no free bits
abbrev pub is_ignored_target : Target → Bool
is_ignored_target (ToPort c name) = c.ignored
is_ignored_target Left = false
is_ignored_target (Right left) = false

abbrev pub is_empty : List ℕ → Bool
is_empty [] = true
is_empty (c ∷ digits) = false

-- a constant as a signal, before the open concatenations
abbrev pub constant_part : DraftOf → Target → List (List SigBit) → List ℕ → Outcome
constant_part d t rows digits =
    cond (is_empty digits) (Err Syntax)
    (cond (list_any is_marker digits) (Err LeftOut)
    (cond (is_ignored_target t) (goes_on d (Part t (map plain_bit digits ∷ rows)))
    (cond (nat_le (bits d + open_digits digits) most_bits)
    (goes_on (with_free d (open_digits digits)) (Part t (numbered_bits d.design.free digits ∷ rows)))
    (Err Limit))))

-- a signal begins
unfoldable pub signal_word : DraftOf → Target → List (List SigBit) → Word → Outcome
signal_word d t rows w =
    cond (bytes_eq w (codes "{")) (goes_on d (Signal t ([] ∷ rows)))
    (needs Syntax (constant_of 1 w) ⊳ constant_part d t rows)

-- what stands after a signal that is in no concatenation
abbrev pub behind_signal : DraftOf → Target → List SigBit → Word → Outcome
behind_signal d (ToPort c name) row w = cell_line d (with_port c name row) w
behind_signal d Left row w = signal_word d (Right (reverse row)) [] w
behind_signal d (Right left) row w = line (with_connect d left row) no_attributes w

abbrev pub begins_slice : Word → Bool
begins_slice w = slice_index w 0 == 91

abbrev pub slice_part : DraftOf → Target → List SigBit → List (List SigBit) → Word → Outcome
slice_part d t row rows w = slice_word row w ⊳ λ part. goes_on d (Part t (part ∷ rows))

-- after a signal: a slice of it; in a concatenation also its end or the next part, which goes below the parts before it
unfoldable pub part_word : DraftOf → Target → List (List SigBit) → Word → Outcome
part_word d t [] w = Err Syntax
part_word d t (row ∷ []) w = cond (begins_slice w) (slice_part d t row [] w) (behind_signal d t row w)
part_word d t (row ∷ above ∷ rows) w =
    cond (begins_slice w) (slice_part d t row (above ∷ rows) w)
    (cond (bytes_eq w (codes "}")) (goes_on d (Part t ((above ++ row) ∷ rows))) (signal_word d t ((above ++ row) ∷ rows) w))

-- what a word that is no name does at each spot
unfoldable pub word_step : DraftOf → Spot → Word → Outcome
word_step d (File behind) w = file_line d behind w
word_step d (AutoIdx behind) w = needs Syntax (number_of w) ⊳ λ n. goes_on d (File behind)
word_step d (FileAttribute behind) w = Err Syntax
word_step d (FileValue behind) w = needs Syntax (constant_of 0 w) ⊳ λ digits. goes_on d (File behind)
word_step d Module w = Err Syntax
word_step d (Line a) w = line d a w
word_step d (Attribute a) w = Err Syntax
word_step d (Value a is_init) w = needs Syntax (constant_of 0 w) ⊳ λ digits. goes_on d (Line (with_attribute a is_init digits))
word_step d ModuleParameter w = Err Syntax
word_step d ModuleParameterValue w = module_value d w (constant_of 1 w)
word_step d (WireOption a o) w = wire_option d a o w
word_step d (WireNumber a o option) w = wire_number d a o option w
word_step d CellType w = Err Syntax
word_step d (CellName kind ignored) w = Err Syntax
word_step d (CellLine c) w = cell_line d c w
word_step d (CellParameter c) w = cond (is_form w) (goes_on d (CellParameterName c)) (Err Syntax)
word_step d (CellParameterName c) w = Err Syntax
word_step d (CellParameterValue c name) w = needs Syntax (constant_of 1 w) ⊳ cell_parameter d c name
word_step d (Port c) w = Err Syntax
word_step d (Signal t rows) w = signal_word d t rows w
word_step d (Part t rows) w = part_word d t rows w

-- ---- names

abbrev pub wire_name : DraftOf → AttributesOf → WireOptions → Word → Outcome
wire_name d a o name =
    cond (list_any (λ n. bytes_eq n name) (wire_names d.design.wires)) (Err DoubleName)
    (goes_on (with_wire d (new_wire name a o)) (Line no_attributes))

abbrev pub cell_name : DraftOf → Kind → Bool → Word → Outcome
cell_name d kind ignored name =
    cond (list_any (λ n. bytes_eq n name) d.cells) (Err DoubleName)
    (goes_on (record d { cells = d.cells ++ name ∷ [] }) (CellLine (new_cell kind name ignored)))

abbrev pub begun_parameter : DraftOf → CellDraftOf → Word → Option ParameterName → Outcome
begun_parameter d c name label = cond (has_parameter c name label) (Err DoubleName) (goes_on d (CellParameterValue (named_parameter c name label) label))

abbrev pub parameter_name : DraftOf → CellDraftOf → Word → Outcome
parameter_name d c name = begun_parameter d c (bare name) (kept_parameter c.cell.kind (known_parameter (bare name)))

abbrev pub begun_port : DraftOf → CellDraftOf → Word → Option PortName → Outcome
begun_port d c name label = cond (has_port c name label) (Err DoubleName) (goes_on d (Signal (ToPort (named_port c name label) label) []))

abbrev pub port_name : DraftOf → CellDraftOf → Word → Outcome
port_name d c name = begun_port d c (bare name) (known_port (bare name))

-- a wire as a signal
unfoldable pub signal_name : DraftOf → Target → List (List SigBit) → Word → Outcome
signal_name d t rows name =
    needs UnknownWire (name_place (wire_names d.design.wires) name) ⊳ λ i. goes_on d (Part t (row_at i (slice_get d.design.wires i) ∷ rows))

-- a line begins with no name: after a signal that is in no concatenation only the right side of a `connect` does
abbrev pub name_behind : DraftOf → Target → List SigBit → Word → Outcome
name_behind d (ToPort c port) row name = Err Syntax
name_behind d Left row name = signal_name d (Right (reverse row)) [] name
name_behind d (Right left) row name = Err Syntax

unfoldable pub part_name : DraftOf → Target → List (List SigBit) → Word → Outcome
part_name d t [] name = Err Syntax
part_name d t (row ∷ []) name = name_behind d t row name
part_name d t (row ∷ above ∷ rows) name = signal_name d t ((above ++ row) ∷ rows) name

-- what a name does at each spot
unfoldable pub name_step : DraftOf → Spot → Word → Outcome
name_step d (File behind) name = Err Syntax
name_step d (AutoIdx behind) name = Err Syntax
name_step d (FileAttribute behind) name = goes_on d (FileValue behind)
name_step d (FileValue behind) name = Err Syntax
name_step d Module name = goes_on (new_draft name) (Line no_attributes)
name_step d (Line a) name = Err Syntax
name_step d (Attribute a) name = goes_on d (Value a (bytes_eq name (codes "\\init")))
name_step d (Value a is_init) name = Err Syntax
name_step d ModuleParameter name = goes_on d ModuleParameterValue
name_step d ModuleParameterValue name = Err Syntax
name_step d (WireOption a o) name = wire_name d a o name
name_step d (WireNumber a o option) name = Err Syntax
name_step d CellType name = goes_on d (CellName (kind_of name) (is_ignored name))
name_step d (CellName kind ignored) name = cell_name d kind ignored name
name_step d (CellLine c) name = Err Syntax
name_step d (CellParameter c) name = parameter_name d c name
name_step d (CellParameterName c) name = parameter_name d c name
name_step d (CellParameterValue c label) name = Err Syntax
name_step d (Port c) name = port_name d c name
name_step d (Signal t rows) name = signal_name d t rows name
name_step d (Part t rows) name = part_name d t rows name

-- ---- whole texts

-- a name is UTF-8
abbrev pub step : DraftOf → Spot → Word → Outcome
step d s w = cond (begins_name (slice_index w 0)) (cond (is_utf8 w) (name_step d s w) (Err NotUtf8Name)) (word_step d s w)

-- what words make of what is read before them
abbrev pub steps : DraftOf → Spot → List Word → Outcome
steps d s [] = goes_on d s
steps d s (w ∷ ws) = step d s w ⊳ λ x. steps x.0 x.1 ws

abbrev pub words_of : List TokenOf → List Word
words_of ts = map (λ t. t.text) ts

-- what the first words of a text make
abbrev pub reading : List TokenOf → Outcome
reading ts = steps (new_draft []) (File false) (words_of ts)

-- The text reads the design: a module with a line of the file next, and the text ends.
pub record Reads (text : List ℕ) (d : DesignOf) : Type 0 where
  pub limit : length text ≤ 2 ^ 26
  pub tokens : List TokenOf
  pub lexes : IsTokens text tokens
  pub cells : List Word
  pub whole : reading tokens ≡ Ok (record { design = d; cells = cells }, File true)
