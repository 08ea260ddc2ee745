-- The words of cells and connects: types, names, and words with which lines begin.
use Rattle.std.proofs.Common.{◌≡◌, ℕ, zero, suc, ◌<◌, ◌≤◌, ◌^◌, Bool, true, false, not, ◌&&◌, ◌||◌, List, [], ◌∷◌, ◌++◌, map, length, get_or, Option, Some, None, refl, sym, ◌∙◌, arith, bytes_eq}
use Rattle.std.specs.Prelude.{codes, eqb, nat_lt, flat_map, slice_index, IsFalse}
use Rattle.std.specs.List.{AllByRecursion, IsDistinct, list_all, list_any}
use Rattle.std.proofs.lemmas.Bool.{ltb-true}
use Rattle.std.proofs.lemmas.Str.{IsUtf8-from_ascii}
use Rattle.rtlil_lex.specs.Tokens.{begins_name, is_backslash, is_space}
use Rattle.rtlil_constant.specs.Constants.{Word, constant_of, is_digit}
use Rattle.design_core.specs.Names.{parameter_text, port_text}
use Rattle.design_core.specs.Ports.{is_parameter, is_port, are_distinct, names_parameter}
use Rattle.design_core.specs.Shape.{WireOf, CellOf, ConnectOf}
use Rattle.design_core.specs.declared.digit.Digit.{Digit}
use Rattle.design_core.specs.declared.digit.Digit.TheVariants.{Const as ConstDigit, Free as FreeDigit, Marker}
use Rattle.design_core.specs.declared.names.PortName.{PortName}
use Rattle.design_core.specs.declared.names.PortName.TheVariants.{A, B, S, En, Y, Clk, D, Q, Srst, Arst}
use Rattle.design_core.specs.declared.names.ParameterName.{ParameterName}
use Rattle.design_core.specs.declared.names.ParameterName.TheVariants.{ASigned, AWidth, BSigned, BWidth, YWidth, Width, SWidth, Offset, ClkPolarity, EnPolarity, SrstPolarity, SrstValue, ArstPolarity, ArstValue}
use Rattle.design_core.specs.declared.parts.Parameter.{Parameter}
use Rattle.cell_table.specs.declared.kind.Kind.{Kind}
use Rattle.cell_table.specs.declared.kind.Kind.TheVariants.{Unary, Binary, Reduce, Logic, Compare, ShiftLeft, ShiftRight, ShiftSign, ShiftAny, Divide, Mux, Pmux, Bmux, Slice, Concat, Ff, Dff, Dffe, Sdff, Sdffe, Sdffce, Adff, Adffe, Statement, Any, InitState, LeftOut, Unknown}
use Rattle.cell_table.specs.declared.kind.Unary.TheVariants as unary
use Rattle.cell_table.specs.declared.kind.Binary.TheVariants as binary
use Rattle.cell_table.specs.declared.kind.Reduce.TheVariants as reduce
use Rattle.cell_table.specs.declared.kind.Logic.TheVariants as logic
use Rattle.cell_table.specs.declared.kind.Compare.TheVariants as compare
use Rattle.cell_table.specs.declared.kind.Divide.TheVariants as divide
use Rattle.cell_table.specs.declared.kind.Statement.TheVariants as statement
use Rattle.cell_table.specs.declared.kind.Any.TheVariants as any
use Rattle.cell_table.specs.declared.kind.LeftOut.TheVariants as leftout
use Rattle.design_reader.specs.Kinds.{kind_of, is_ignored}
use Rattle.design_reader.specs.Labels.{bare, known_parameter, known_port}
use Rattle.design_reader.specs.Parts.{CellDraftOf, DraftOf, no_attributes}
use Rattle.design_reader.specs.Grammar.{goes_on, begins_slice, cell_line, line, name_step, named_port, new_cell, parameter_name, part_word, step, steps, takes_free, with_connect, with_port, word_step}
use Rattle.reader_law.specs.Printed.{Line, kind_text, digit_character, identifier, is_value, connect_line, IsIdentifier, IsForeign}
use Rattle.design_reader.specs.declared.spot.Target.TheVariants.{Port as ToPort, Left, Right}
use Rattle.design_reader.specs.declared.spot.Spot.{Spot}
use Rattle.design_reader.specs.declared.spot.Spot.TheVariants.{Line as LineSpot, CellType, CellName, CellLine, CellParameter, CellParameterValue, Port as PortSpot, Signal, Part}
use Rattle.design_reader.proofs.LabelLemmas.{port_is, parameter_is}
use Rattle.design_reader.proofs.WordLemmas.{utf8_yes}
use Rattle.reader_law.proofs.PrintedWords.{both_tests}
use Rattle.reader_law.proofs.Steps.{Bits, all_join, same_step, step_named}

-- each text is that of its port and its parameter
pub port_at : (p : PortName) → known_port (port_text p) ≡ Some p
port_at p = sym (port_is (Some p) (port_text p) refl (record {}))

parameter_at : (p : ParameterName) → known_parameter (parameter_text p) ≡ Some p
parameter_at p = sym (parameter_is (Some p) (parameter_text p) refl (record {}))

-- ---- identifiers

abbrev is_identifier : Word → Bool
is_identifier w = begins_name (slice_index w 0) && (list_all (λ b. not (is_space b)) w && list_all (λ b. nat_lt b 128) w)

below_128 : (w : Word) → list_all (λ b. nat_lt b 128) w ≡ true → (i : ℕ) → get_or w i 0 < 128
below_128 [] h i = omega arith
below_128 (c ∷ w) h zero = let e : nat_lt c 128 ≡ true = (both_tests (nat_lt c 128) _ h).0 in ltb-true c 128 e
below_128 (c ∷ w) h (suc i) = below_128 w (both_tests (nat_lt c 128) _ h).1 i

no_space : (v : Bool) → not v ≡ true → v ≡ false
no_space true h = absurd cc
no_space false h = refl

pub both_no : (a b : Bool) → (a || b) ≡ false → (a ≡ false) × (b ≡ false)
both_no true b h = absurd cc
both_no false b h = (refl, h)

visible : (w : Word) → list_all (λ b. not (is_space b)) w ≡ true → AllByRecursion (λ b. IsFalse (is_space b)) w
visible [] h = tt
visible (c ∷ w) h = let k = both_tests (not (is_space c)) _ h in (no_space (is_space c) k.0, visible w k.1)

pub identifier_by : (w : Word) → is_identifier w ≡ true → IsIdentifier w
identifier_by w h =
    let a = both_tests (begins_name (slice_index w 0)) _ h in
    let b = both_tests (list_all (λ b. not (is_space b)) w) _ a.1 in
    record { begins = a.0; visible = visible w b.0; utf8 = utf8_yes w (IsUtf8-from_ascii w (below_128 w b.1)) }

-- a type's name is read as its kind
KindIsRead : Kind → Type 0
KindIsRead k = (kind_of (kind_text k) ≡ k) × (is_ignored (kind_text k) ≡ false) × (is_identifier (kind_text k) ≡ true)

kind_read : (k : Kind) → KindIsRead k
unfolding KindIsRead
kind_read (Unary unary.Not) = (refl, refl, refl)
kind_read (Unary unary.Pos) = (refl, refl, refl)
kind_read (Unary unary.Neg) = (refl, refl, refl)
kind_read (Binary binary.And) = (refl, refl, refl)
kind_read (Binary binary.Or) = (refl, refl, refl)
kind_read (Binary binary.Xor) = (refl, refl, refl)
kind_read (Binary binary.Xnor) = (refl, refl, refl)
kind_read (Binary binary.Add) = (refl, refl, refl)
kind_read (Binary binary.Sub) = (refl, refl, refl)
kind_read (Binary binary.Mul) = (refl, refl, refl)
kind_read (Reduce reduce.And) = (refl, refl, refl)
kind_read (Reduce reduce.Or) = (refl, refl, refl)
kind_read (Reduce reduce.Xor) = (refl, refl, refl)
kind_read (Reduce reduce.Xnor) = (refl, refl, refl)
kind_read (Reduce reduce.Bool) = (refl, refl, refl)
kind_read (Reduce reduce.Not) = (refl, refl, refl)
kind_read (Logic logic.And) = (refl, refl, refl)
kind_read (Logic logic.Or) = (refl, refl, refl)
kind_read (Compare compare.Eq) = (refl, refl, refl)
kind_read (Compare compare.Ne) = (refl, refl, refl)
kind_read (Compare compare.Eqx) = (refl, refl, refl)
kind_read (Compare compare.Nex) = (refl, refl, refl)
kind_read (Compare compare.Lt) = (refl, refl, refl)
kind_read (Compare compare.Le) = (refl, refl, refl)
kind_read (Compare compare.Gt) = (refl, refl, refl)
kind_read (Compare compare.Ge) = (refl, refl, refl)
kind_read ShiftLeft = (refl, refl, refl)
kind_read ShiftRight = (refl, refl, refl)
kind_read ShiftSign = (refl, refl, refl)
kind_read ShiftAny = (refl, refl, refl)
kind_read (Divide divide.Div) = (refl, refl, refl)
kind_read (Divide divide.Mod) = (refl, refl, refl)
kind_read Mux = (refl, refl, refl)
kind_read Pmux = (refl, refl, refl)
kind_read Bmux = (refl, refl, refl)
kind_read Slice = (refl, refl, refl)
kind_read Concat = (refl, refl, refl)
kind_read Ff = (refl, refl, refl)
kind_read Dff = (refl, refl, refl)
kind_read Dffe = (refl, refl, refl)
kind_read Sdff = (refl, refl, refl)
kind_read Sdffe = (refl, refl, refl)
kind_read Sdffce = (refl, refl, refl)
kind_read Adff = (refl, refl, refl)
kind_read Adffe = (refl, refl, refl)
kind_read (Statement statement.Assert) = (refl, refl, refl)
kind_read (Statement statement.Assume) = (refl, refl, refl)
kind_read (Statement statement.Cover) = (refl, refl, refl)
kind_read (Any any.Const) = (refl, refl, refl)
kind_read (Any any.Seq) = (refl, refl, refl)
kind_read InitState = (refl, refl, refl)
kind_read (LeftOut leftout.Memory) = (refl, refl, refl)
kind_read (LeftOut leftout.Dlatch) = (refl, refl, refl)
kind_read (LeftOut leftout.Adlatch) = (refl, refl, refl)
kind_read (LeftOut leftout.Dlatchsr) = (refl, refl, refl)
kind_read (LeftOut leftout.Sr) = (refl, refl, refl)
kind_read (LeftOut leftout.Lut) = (refl, refl, refl)
kind_read (LeftOut leftout.Alu) = (refl, refl, refl)
kind_read (LeftOut leftout.Macc) = (refl, refl, refl)
kind_read (LeftOut leftout.Fsm) = (refl, refl, refl)
kind_read (LeftOut leftout.Tribuf) = (refl, refl, refl)
kind_read (LeftOut leftout.Demux) = (refl, refl, refl)
kind_read (LeftOut leftout.Bwmux) = (refl, refl, refl)
kind_read (LeftOut leftout.Bweqx) = (refl, refl, refl)
kind_read (LeftOut leftout.Divfloor) = (refl, refl, refl)
kind_read (LeftOut leftout.Modfloor) = (refl, refl, refl)
kind_read (LeftOut leftout.Gate) = (refl, refl, refl)
kind_read (LeftOut leftout.Live) = (refl, refl, refl)
kind_read (LeftOut leftout.Fair) = (refl, refl, refl)
kind_read (LeftOut leftout.Allconst) = (refl, refl, refl)
kind_read (LeftOut leftout.Allseq) = (refl, refl, refl)
kind_read (LeftOut leftout.Check) = (refl, refl, refl)
kind_read Unknown = (refl, refl, refl)

pub kind_identifier : (k : Kind) → IsIdentifier (kind_text k)
unfolding KindIsRead
kind_identifier k = identifier_by (kind_text k) (kind_read k).2

pub parameter_identifier : (p : ParameterName) → (is_identifier (92 ∷ parameter_text p) ≡ true) × (bare (92 ∷ parameter_text p) ≡ parameter_text p)
parameter_identifier ASigned = (refl, refl)
parameter_identifier AWidth = (refl, refl)
parameter_identifier BSigned = (refl, refl)
parameter_identifier BWidth = (refl, refl)
parameter_identifier YWidth = (refl, refl)
parameter_identifier Width = (refl, refl)
parameter_identifier SWidth = (refl, refl)
parameter_identifier Offset = (refl, refl)
parameter_identifier ClkPolarity = (refl, refl)
parameter_identifier EnPolarity = (refl, refl)
parameter_identifier SrstPolarity = (refl, refl)
parameter_identifier SrstValue = (refl, refl)
parameter_identifier ArstPolarity = (refl, refl)
parameter_identifier ArstValue = (refl, refl)

pub port_identifier : (p : PortName) → (is_identifier (92 ∷ port_text p) ≡ true) × (bare (92 ∷ port_text p) ≡ port_text p)
port_identifier A = (refl, refl)
port_identifier B = (refl, refl)
port_identifier S = (refl, refl)
port_identifier En = (refl, refl)
port_identifier Y = (refl, refl)
port_identifier Clk = (refl, refl)
port_identifier D = (refl, refl)
port_identifier Q = (refl, refl)
port_identifier Srst = (refl, refl)
port_identifier Arst = (refl, refl)

-- ---- lines

abbrev pub words_in : List Line → List Word
words_in lines = flat_map (λ l. l) lines

-- a word with which a line begins, after a signal too
pub record IsKey (w : Word) : Type 0 where
  pub name : begins_name (slice_index w 0) ≡ false
  pub slice : begins_slice w ≡ false
  pub constant : constant_of 1 w ≡ None

pub parameter_word : IsKey (codes "parameter")
parameter_word = record { name = refl; slice = refl; constant = refl }

-- words of further lines
pub record IsLeft (ws : List Word) : Type 0 where
  pub first : Word
  pub more : List Word
  pub are : ws ≡ first ∷ more
  pub key : IsKey first

pub key_left : (w : Word) (ws : List Word) → IsKey w → IsLeft (w ∷ ws)
key_left w ws k = record { first = w; more = ws; are = refl; key = k }

-- where each such word does the same
pub same_left : (d e : DraftOf) (s q : Spot) (ws : List Word) → ((w : Word) → IsKey w → step d s w ≡ step e q w) → IsLeft ws → steps d s ws ≡ steps e q ws
same_left d e s q ws h l = rw l.are (same_step d e s q l.first l.more (h l.first l.key))

pub port_key : (d : DraftOf) (c : CellDraftOf) (label : Option PortName) (row : Bits) (w : Word) → IsKey w → step d (Part (ToPort c label) (row ∷ [])) w ≡ step d (CellLine (with_port c label row)) w
unfolding word_step part_word
port_key d c label row w k = let a = k.name in let b = k.slice in rw (a, b) refl

pub connect_key : (d : DraftOf) (left row : Bits) (w : Word) → IsKey w → step d (Part (Right left) (row ∷ [])) w ≡ step (with_connect d left row) (LineSpot no_attributes) w
unfolding word_step part_word
connect_key d left row w k = let a = k.name in let b = k.slice in rw (a, b) refl

-- ---- a cell's parameters

-- a constant that isn't longer than a text
abbrev pub IsShort : Parameter → Type 0
IsShort p = length p.digits ≤ 2 ^ 26

abbrev pub HasShort : CellOf → Type 0
HasShort c = AllByRecursion IsShort c.parameters

pub digits_fine : (row : List Digit) → list_all is_digit (map digit_character row) ≡ true
digits_fine [] = refl
digits_fine (ConstDigit true ∷ row) = digits_fine row
digits_fine (ConstDigit false ∷ row) = digits_fine row
digits_fine (FreeDigit n ∷ row) = digits_fine row
digits_fine (Marker ∷ row) = digits_fine row

pub parameter_key : (d : DraftOf) (c : CellDraftOf) → step d (CellLine c) (codes "parameter") ≡ goes_on d (CellParameter c)
unfolding word_step cell_line
parameter_key d c = refl

pub kept_named : (d : DraftOf) (c : CellDraftOf) (p : ParameterName) → names_parameter c.cell.kind p ≡ true → list_any (λ x. is_parameter x.name p) c.cell.parameters ≡ false
    → parameter_name d c (92 ∷ parameter_text p) ≡ goes_on d (CellParameterValue c (Some p))
kept_named d c p named none =
    let b = (parameter_identifier p).1 in
    let k = parameter_at p in
    rw (b, k, named, none) refl

-- the same parameters are values in the grammar
pub value_same : (p : ParameterName) → is_value p ≡ takes_free p
value_same ASigned = refl
value_same AWidth = refl
value_same BSigned = refl
value_same BWidth = refl
value_same YWidth = refl
value_same Width = refl
value_same SWidth = refl
value_same Offset = refl
value_same ClkPolarity = refl
value_same EnPolarity = refl
value_same SrstPolarity = refl
value_same SrstValue = refl
value_same ArstPolarity = refl
value_same ArstValue = refl

-- the number of an item isn't that of one before it
pub none_before : {X : Type 0} (number : X → ℕ) (pre : List X) (x : X) (post : List X) → are_distinct number (pre ++ x ∷ post) ≡ true → list_any (λ y. eqb (number y) (number x)) pre ≡ false
none_before number [] x post h = refl
none_before number (y ∷ pre) x post h =
    let k = both_tests (not (list_any (λ z. eqb (number y) (number z)) (pre ++ x ∷ post))) _ h in
    let here = other_there number y pre x post (no_space (list_any (λ z. eqb (number y) (number z)) (pre ++ x ∷ post)) k.0) in
    rw here (none_before number pre x post k.1)
  where
    other_there : {X : Type 0} (number : X → ℕ) (y : X) (pre : List X) (x : X) (post : List X) → list_any (λ z. eqb (number y) (number z)) (pre ++ x ∷ post) ≡ false → eqb (number y) (number x) ≡ false
    other_there number y [] x post h = (both_no (eqb (number y) (number x)) _ h).0
    other_there number y (z ∷ pre) x post h = other_there number y pre x post (both_no (eqb (number y) (number z)) _ h).1

-- ---- its ports

pub connect_begins : IsKey (codes "connect")
connect_begins = record { name = refl; slice = refl; constant = refl }

pub port_begins : (d : DraftOf) (c : CellDraftOf) → step d (CellLine c) (codes "connect") ≡ goes_on d (PortSpot c)
unfolding word_step cell_line
port_begins d c = refl

pub port_step : (d : DraftOf) (c : CellDraftOf) (p : PortName) → list_any (λ x. is_port x.name p) c.cell.ports ≡ false → step d (PortSpot c) (92 ∷ port_text p) ≡ goes_on d (Signal (ToPort c (Some p)) [])
unfolding name_step
port_step d c p none =
    let i = port_identifier p in
    let b = i.1 in
    let k = port_at p in
    step_named d (PortSpot c) (92 ∷ port_text p) (identifier_by _ i.0) ∙ rw (b, k, none) refl

-- ---- ports that the table doesn't know

-- a name isn't that of one before it
pub fresh_name : (pre : List Word) (x : Word) (post : List Word) → IsDistinct bytes_eq (pre ++ x ∷ post) → list_any (λ n. bytes_eq n x) pre ≡ false
unfolding IsDistinct
fresh_name [] x post h = refl
fresh_name (y ∷ pre) x post h = let e : bytes_eq y x ≡ false = later y pre x post h.0 in rw e (fresh_name pre x post h.1)
  where
    later : (y : Word) (pre : List Word) (x : Word) (post : List Word) → AllByRecursion (λ z. bytes_eq y z ≡ false) (pre ++ x ∷ post) → bytes_eq y x ≡ false
    later y [] x post h = h.0
    later y (z ∷ pre) x post h = later y pre x post h.1

-- one name more
pub distinct_push : (xs : List Word) (name : Word) → IsDistinct bytes_eq xs → list_any (λ n. bytes_eq n name) xs ≡ false → IsDistinct bytes_eq (xs ++ name ∷ [])
unfolding IsDistinct
distinct_push [] name u h = (tt, tt)
distinct_push (x ∷ xs) name u h =
    let a = both_no (bytes_eq x name) _ h in
    (all_join (λ (y : Word). bytes_eq x y ≡ false) xs (name ∷ []) u.0 (a.0, tt), distinct_push xs name u.1 a.1)

-- the identifier leaves this name
pub bare_back : (name : Word) → (is_backslash (slice_index name 0) ≡ true → begins_name (slice_index name 1) ≡ true) → bare (identifier name) ≡ name
bare_back [] shape = refl
bare_back (b ∷ rest) shape = by (is_backslash b) (begins_name b) refl refl
  where
    by : (v u : Bool) → is_backslash b ≡ v → begins_name b ≡ u → bare (identifier (b ∷ rest)) ≡ b ∷ rest
    by true u e f = let s : begins_name (slice_index rest 0) ≡ true = shape e in rw (e, s) (rw e refl)
    by false true e f = rw f (rw e refl)
    by false false e f = rw f (rw f refl)

pub foreign_step : (d : DraftOf) (c : CellDraftOf) (name : Word) → IsForeign name → list_any (λ n. bytes_eq n name) c.cell.foreign ≡ false → step d (PortSpot c) (identifier name) ≡ goes_on d (Signal (ToPort (named_port c name None) None) [])
unfolding name_step
foreign_step d c name f none =
    let a = bare_back name f.shape in
    let b : known_port name ≡ None = sym (port_is None name (record {}) f.other) in
    step_named d (PortSpot c) (identifier name) f.word ∙ rw (a, b, none) refl

-- ---- a cell

abbrev Top : Spot
Top = LineSpot no_attributes

pub type_step : (d : DraftOf) (k : Kind) (w : Word) (ignored : Bool) → kind_of w ≡ k → is_ignored w ≡ ignored → IsIdentifier w → step d CellType w ≡ goes_on d (CellName k ignored)
unfolding name_step
type_step d k w ignored e n i = step_named d CellType w i ∙ rw (e, n) refl

pub kind_step : (d : DraftOf) (k : Kind) → step d CellType (kind_text k) ≡ goes_on d (CellName k false)
unfolding KindIsRead
kind_step d k = let r = kind_read k in type_step d k (kind_text k) false r.0 r.1 (kind_identifier k)

pub cell_name_step : (d : DraftOf) (k : Kind) (ignored : Bool) (name : Word) → IsIdentifier name → list_any (λ n. bytes_eq n name) d.cells ≡ false
    → step d (CellName k ignored) name ≡ goes_on (record d { cells = d.cells ++ name ∷ [] }) (CellLine (new_cell k name ignored))
unfolding name_step
cell_name_step d k ignored name i none = step_named d (CellName k ignored) name i ∙ rw none refl

pub end_begins : IsKey (codes "end")
end_begins = record { name = refl; slice = refl; constant = refl }

-- ---- connects

pub connect_step : (d : DraftOf) → step d Top (codes "connect") ≡ goes_on d (Signal Left [])
unfolding word_step line
connect_step d = refl

abbrev pub HasBits : ConnectOf → Type 0
HasBits j = (0 < length j.left) × (0 < length j.right)

abbrev pub connect_lines : List WireOf → List ConnectOf → List Line
connect_lines wires js = flat_map (λ j. connect_line wires j ∷ []) js
