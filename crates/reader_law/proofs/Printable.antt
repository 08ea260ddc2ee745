-- What is read can be printed.
use Rattle.std.proofs.Common.{◌≡◌, ℕ, zero, suc, ◌+◌, ◌-◌, ◌<◌, Bool, true, false, not, ◌||◌, ◌&&◌, cond, List, [], ◌∷◌, ◌++◌, map, length, drop, Option, Some, None, Result, Ok, Err, refl, sym, ap, ◌∙◌, subst, arith, bytes_eq}
use Rattle.std.specs.Prelude.{codes, ◌==◌, nat_le, nat_lt, reverse, flat_map, slice_get, slice_index, unwrap_or, All, IsFalse}
use Rattle.std.specs.List.{AllByRecursion, IsDistinct, list_any, position_or_len, range_with_len}
use Rattle.std.specs.Str.{is_utf8}
use Rattle.std.proofs.lemmas.Bool.{eqb-true, ne_eqb, ltb-true, leb-true}
use Rattle.std.proofs.lemmas.Bool.Decides.{nat_tests}
use Rattle.std.proofs.lemmas.List.{length-append, length-map, length-reverse, length-take, length-drop, reverse-reverse, map-append}
use Rattle.std.proofs.lemmas.List.Elements.{All-nil, All-push, recursion_from_All}
use Rattle.rtlil_lex.specs.Tokens.{begins_name, is_backslash, is_break, is_quote, is_space, IsToken, TokenOf, Lexes}
use Rattle.rtlil_lex.specs.Tokens.IsToken.{name as name_token, string as string_token, word as word_token}
use Rattle.rtlil_lex.specs.Tokens.Lexes.{last_gap, token}
use Rattle.rtlil_constant.specs.Constants.{Word, number_of, unsigned, is_marker, is_open, open_digits, constant_of, slice_of}
use Rattle.cell_table.specs.declared.kind.Kind.{Kind}
use Rattle.design_core.specs.Shape.{WireOf, CellOf, ConnectOf, DesignOf, IsDesign}
use Rattle.design_core.specs.declared.digit.Digit.{Digit}
use Rattle.design_core.specs.declared.digit.Digit.TheVariants.{Const as ConstDigit, Marker}
use Rattle.design_core.specs.declared.names.ParameterName.{ParameterName}
use Rattle.design_core.specs.declared.names.PortName.{PortName}
use Rattle.design_core.specs.declared.parts.Port.{Port}
use Rattle.design_signals.specs.Parts.{slice_row, wire_row}
use Rattle.design_signals.specs.declared.sig_bit.SigBit.{SigBit}
use Rattle.design_signals.specs.declared.sig_bit.SigBit.TheVariants.{Free}
use Rattle.indexmap.proofs.ReorderLemmas.{map-reverse}
use Rattle.design_reader.specs.Labels.{bare, known_port}
use Rattle.design_reader.specs.Parts.{AttributesOf, CellDraftOf, DraftOf, no_attributes}
use Rattle.design_reader.specs.Grammar.{Outcome, ◌⊳◌, bits, most_bits, with_free, with_wire, with_cell, with_connect, with_port, with_parameter, new_draft, new_wire, new_cell, needs, granted, plain_bit, plain_digit, numbered_bits, numbered_digits, is_empty, is_ignored_target, is_form, row_at, wire_names, name_place, with_attribute, file_line, bare_line, line, wire_option, wire_width, wire_number, module_value, cell_line, cell_parameter, constant_part, signal_word, behind_signal, slice_part, slice_word, sliced, part_word, word_step, wire_name, cell_name, begun_parameter, begun_port, has_port, has_parameter, named_parameter, named_port, signal_name, name_behind, part_name, name_step, step, steps, takes_free, words_of, Reads}
use Rattle.reader_law.specs.Printed.{digit_number, digit_numbers, design_numbers, identifier, is_value, IsIdentifier, IsForeign, IsPrintableParameter, IsPrintableCell, IsPrintable}
use Rattle.design_reader.specs.declared.fault.ReadFaultKind.{ReadFaultKind}
use Rattle.design_reader.specs.declared.fault.ReadFaultKind.TheVariants.{Limit, Syntax, UnknownWire, LeftOut, SeveralModules, Index}
use Rattle.design_reader.specs.declared.spot.WireOptions.{WireOptions}
use Rattle.design_reader.specs.declared.spot.NumberedOption.{NumberedOption}
use Rattle.design_reader.specs.declared.spot.NumberedOption.TheVariants.{Width, Offset, Input, Output}
use Rattle.design_reader.specs.declared.spot.Target.{Target}
use Rattle.design_reader.specs.declared.spot.Target.TheVariants.{Port as ToPort, Left, Right}
use Rattle.design_reader.specs.declared.spot.Spot.{Spot}
use Rattle.design_reader.specs.declared.spot.Spot.TheVariants.{File, AutoIdx, FileAttribute, FileValue, Module, Line, Attribute, Value, ModuleParameter, ModuleParameterValue, WireOption, WireNumber, CellType, CellName, CellLine, CellParameter, CellParameterName, CellParameterValue, Port as PortSpot, Signal, Part}
use Rattle.reader_law.proofs.CellWords.{distinct_push, HasBits, both_no, port_at, value_same}
use Rattle.design_reader.proofs.Room.{reading_kept}

abbrev Row : Type 0
Row = List SigBit

-- ---- identifiers

no_space : (b : ℕ) → begins_name b ≡ true → is_space b ≡ false
no_space b h =
    let other : (c : ℕ) → begins_name c ≡ false → (b == c) ≡ false = λ c n. ne_eqb b c (λ e. let yes : begins_name c ≡ true = subst (λ (x : ℕ). begins_name x ≡ true) e h in cc) in
    let a = other 32 refl in
    let c = other 9 refl in
    let d = other 10 refl in
    let e = other 13 refl in
    rw (a, c, d, e) refl

never : (a c : Bool) → not ((a || true) || c) ≡ true → ⊥
never true c h = cc
never false c h = cc

identifier_is : (w rest : List ℕ) → IsToken w rest → begins_name (slice_index w 0) ≡ true → is_utf8 w ≡ true → IsIdentifier w
identifier_is w rest (name_token b run after h r) e u = record { begins = h; visible = (no_space b h, r.inside); utf8 = u }
identifier_is w rest (string_token b text after q s f) e u =
    let same = eqb-true b 34 q in
    let bad : begins_name 34 ≡ true = subst (λ (x : ℕ). begins_name x ≡ true) same e in absurd cc
identifier_is w rest (word_token b run after h r) e u =
    let bad : not ((is_break b || true) || is_quote b) ≡ true = subst (λ (x : Bool). not ((is_break b || x) || is_quote b) ≡ true) e h in
    absurd (never (is_break b) (is_quote b) bad)

-- ---- names

-- what isn't among the ones isn't among the others
abbrev IsWithin : List Word → List Word → Type 0
IsWithin xs ys = (name : Word) → list_any (λ n. bytes_eq n name) ys ≡ false → list_any (λ n. bytes_eq n name) xs ≡ false

any_parts : (p : Word → Bool) (xs ys : List Word) → list_any p (xs ++ ys) ≡ false → (list_any p xs ≡ false) × (list_any p ys ≡ false)
any_parts p [] ys h = (refl, h)
any_parts p (x ∷ xs) ys h =
    let a = both_no (p x) _ h in
    let r = any_parts p xs ys a.1 in
    (rw a.0 r.0, r.1)

any_join : (p : Word → Bool) (xs ys : List Word) → list_any p xs ≡ false → list_any p ys ≡ false → list_any p (xs ++ ys) ≡ false
any_join p [] ys h k = k
any_join p (x ∷ xs) ys h k = let a = both_no (p x) _ h in rw a.0 (any_join p xs ys a.1 k)

-- ---- what is read so far

abbrev names_in : List CellOf → List Word
names_in cells = map (λ c. c.name) cells

-- of wires, cells and connects, and of the names of all cells
record AreGood (wires : List WireOf) (cells : List CellOf) (connects : List ConnectOf) (names : List Word) : Type 0 where
  wires_named : All (λ w. IsIdentifier w.name) wires
  widths : All (λ w. 0 < w.width) wires
  one_wire : IsDistinct bytes_eq (wire_names wires)
  printable : All IsPrintableCell cells
  one_cell : IsDistinct bytes_eq (names_in cells)
  within : IsWithin (names_in cells) names
  some : All HasBits connects

abbrev Good : DraftOf → Type 0
Good d = AreGood d.design.wires d.design.cells d.design.connects d.cells

-- a cell so far, whose name is the last
record IsGoodCell (cells : List CellOf) (names : List Word) (c : CellOf) : Type 0 where
  printable : IsPrintableCell c
  one_cell : IsDistinct bytes_eq (names_in cells ++ c.name ∷ [])
  within : IsWithin (names_in cells ++ c.name ∷ []) names

abbrev GoodCell : DraftOf → CellDraftOf → Type 0
GoodCell d c = IsGoodCell d.design.cells d.cells c.cell

abbrev Named : DraftOf → Type 0
Named d = IsIdentifier d.design.name

abbrev NamedIf : Bool → DraftOf → Type 0
NamedIf true d = Named d
NamedIf false d = Unit {0}

abbrev GoodTarget : DraftOf → Target → Type 0
GoodTarget d (ToPort c label) = GoodCell d c
GoodTarget d Left = Unit {0}
GoodTarget d (Right left) = 0 < length left

abbrev GoodRows : List Row → Type 0
GoodRows [] = Unit {0}
GoodRows (row ∷ rows) = 0 < length row

abbrev GoodAt : DraftOf → Spot → Type 0
GoodAt d (File behind) = NamedIf behind d
GoodAt d (AutoIdx behind) = NamedIf behind d
GoodAt d (FileAttribute behind) = NamedIf behind d
GoodAt d (FileValue behind) = NamedIf behind d
GoodAt d Module = Unit {0}
GoodAt d (Line a) = Named d
GoodAt d (Attribute a) = Named d
GoodAt d (Value a is_init) = Named d
GoodAt d ModuleParameter = Named d
GoodAt d ModuleParameterValue = Named d
GoodAt d (WireOption a o) = Named d × (0 < unwrap_or o.width 1)
GoodAt d (WireNumber a o option) = Named d × (0 < unwrap_or o.width 1)
GoodAt d CellType = Named d
GoodAt d (CellName kind ignored) = Named d
GoodAt d (CellLine c) = Named d × GoodCell d c
GoodAt d (CellParameter c) = Named d × GoodCell d c
GoodAt d (CellParameterName c) = Named d × GoodCell d c
GoodAt d (CellParameterValue c label) = Named d × GoodCell d c
GoodAt d (PortSpot c) = Named d × GoodCell d c
GoodAt d (Signal t rows) = Named d × GoodTarget d t
GoodAt d (Part t rows) = Named d × GoodTarget d t × GoodRows rows

record IsGood (d : DraftOf) (s : Spot) : Type 0 where
  good : Good d
  at : GoodAt d s

Keeps : Outcome → Type 0
Keeps (Ok x) = IsGood x.0 x.1
Keeps (Err k) = Unit {0}

keeps_ok : (d : DraftOf) (s : Spot) → Good d → GoodAt d s → Keeps (Ok (d, s))
unfolding Keeps
keeps_ok d s g a = record { good = g; at = a }

keeps_err : (k : ReadFaultKind) → Keeps (Err k)
unfolding Keeps
keeps_err k = tt

keeps_if : (b : Bool) (x y : Outcome) → (b ≡ true → Keeps x) → (b ≡ false → Keeps y) → Keeps (cond b x y)
keeps_if true x y f g = f refl
keeps_if false x y f g = g refl

keeps_cond : (b : Bool) (x y : Outcome) → Keeps x → Keeps y → Keeps (cond b x y)
keeps_cond true x y f g = f
keeps_cond false x y f g = g

keeps_then : {A : Type 0} (r : Result A ReadFaultKind) (f : A → Outcome) → ((x : A) → r ≡ Ok x → Keeps (f x)) → Keeps (r ⊳ f)
keeps_then (Ok x) f h = h x refl
keeps_then (Err k) f h = keeps_err k

keeps_on : (r : Outcome) (f : DraftOf × Spot → Outcome) → Keeps r → ((x : DraftOf × Spot) → IsGood x.0 x.1 → Keeps (f x)) → Keeps (r ⊳ f)
unfolding Keeps
keeps_on (Ok x) f h g = g x h
keeps_on (Err k) f h g = keeps_err k

-- ---- words

file_keeps : (d : DraftOf) (behind : Bool) (w : Word) → Good d → NamedIf behind d → Keeps (file_line d behind w)
file_keeps d behind w g n =
    keeps_cond (bytes_eq w (codes "autoidx")) _ _ (keeps_ok d (AutoIdx behind) g n)
    (keeps_cond (bytes_eq w (codes "attribute")) _ _ (keeps_ok d (FileAttribute behind) g n)
    (keeps_cond (bytes_eq w (codes "module")) _ _ (keeps_cond behind _ _ (keeps_err SeveralModules) (keeps_ok d Module g tt)) (keeps_err Syntax)))

bare_keeps : (d : DraftOf) (w : Word) → Good d → Named d → Keeps (bare_line d w)
bare_keeps d w g n =
    keeps_cond _ _ _ (keeps_ok d ModuleParameter g n)
    (keeps_cond _ _ _ (keeps_ok d (Signal Left []) g (n, tt))
    (keeps_cond _ _ _ (keeps_ok d (File true) g n) (keeps_err _)))

line_keeps : (d : DraftOf) (a : AttributesOf) (w : Word) → Good d → Named d → Keeps (line d a w)
unfolding line
line_keeps d a w g n =
    keeps_cond _ _ _ (keeps_ok d (Attribute a) g n)
    (keeps_cond _ _ _ (keeps_cond (nat_lt (bits d) most_bits) _ _ (keeps_ok d (WireOption a (record { width = None; input = false })) g (n, omega arith)) (keeps_err _))
    (keeps_cond _ _ _ (keeps_ok d CellType g n)
    (keeps_cond (bytes_eq w (codes "memory") || bytes_eq w (codes "process")) _ _ (keeps_err LeftOut)
    (keeps_cond (bytes_eq w (codes "module")) _ _ (keeps_err SeveralModules) (keeps_cond a.some _ _ (keeps_err Syntax) (bare_keeps d w g n))))))

option_keeps : (d : DraftOf) (a : AttributesOf) (o : WireOptions) (w : Word) → Good d → Named d × (0 < unwrap_or o.width 1) → Keeps (wire_option d a o w)
option_keeps d a o w g n =
    keeps_cond _ _ _ (keeps_cond _ _ _ (keeps_err _) (keeps_ok d (WireNumber a o Width) g n))
    (keeps_cond _ _ _ (keeps_ok d (WireNumber a o Offset) g n)
    (keeps_cond _ _ _ (keeps_ok d (WireNumber a o Input) g n)
    (keeps_cond _ _ _ (keeps_ok d (WireNumber a o Output) g n)
    (keeps_cond _ _ _ (keeps_err _) (keeps_cond _ _ _ (keeps_ok d (WireOption a o) g n) (keeps_err _))))))

width_keeps : (d : DraftOf) (a : AttributesOf) (o : WireOptions) (n : ℕ) → Good d → Named d → Keeps (wire_width d a o n)
width_keeps d a o n g named =
    keeps_if (n == 0) _ _ (λ e. keeps_err _) (λ e.
    keeps_cond (nat_le (bits d + n) most_bits) _ _ (keeps_ok d (WireOption a (record o { width = Some n })) g (named, grind (arith, nat_tests))) (keeps_err _))

number_keeps : (d : DraftOf) (a : AttributesOf) (o : WireOptions) (option : NumberedOption) (w : Word) → Good d → Named d × (0 < unwrap_or o.width 1) → Keeps (wire_number d a o option w)
number_keeps d a o Width w g n = keeps_then (needs Syntax (number_of w)) _ (λ k e. width_keeps d a o k g n.0)
number_keeps d a o Offset w g n = keeps_then (needs Syntax (number_of (unsigned w))) _ (λ k e. keeps_ok d (WireOption a o) g n)
number_keeps d a o Input w g n = keeps_then (needs Syntax (number_of w)) _ (λ k e. keeps_ok d (WireOption a (record o { input = true })) g n)
number_keeps d a o Output w g n = keeps_then (needs Syntax (number_of w)) _ (λ k e. keeps_ok d (WireOption a o) g n)

module_keeps : (d : DraftOf) (w : Word) (found : Option (List ℕ)) → Good d → Named d → Keeps (module_value d w found)
module_keeps d w None g n = line_keeps d no_attributes w g n
module_keeps d w (Some digits) g n = keeps_ok d (Line no_attributes) g n

-- a cell that ends
ended : (ignored : Bool) (d : DraftOf) (c : CellDraftOf) → Good d → GoodCell d c → Good (cond ignored d (with_cell d c.cell))
ended true d c g k = g
ended false d c g k =
    let same : names_in (d.design.cells ++ c.cell ∷ []) ≡ names_in d.design.cells ++ c.cell.name ∷ [] = map-append (λ (x : CellOf). x.name) d.design.cells (c.cell ∷ []) in
    record {
      wires_named = g.wires_named;
      widths = g.widths;
      one_wire = g.one_wire;
      printable = All-push IsPrintableCell d.design.cells c.cell g.printable k.printable;
      one_cell = subst (λ (x : List Word). IsDistinct bytes_eq x) (sym same) k.one_cell;
      within = subst (λ (x : List Word). IsWithin x d.cells) (sym same) k.within;
      some = g.some;
    }

ended_name : (ignored : Bool) (d : DraftOf) (c : CellDraftOf) → Named d → Named (cond ignored d (with_cell d c.cell))
ended_name true d c n = n
ended_name false d c n = n

cell_keeps : (d : DraftOf) (c : CellDraftOf) (w : Word) → Good d → Named d → GoodCell d c → Keeps (cell_line d c w)
unfolding cell_line
cell_keeps d c w g n k =
    keeps_cond _ _ _ (keeps_ok d (CellParameter c) g (n, k))
    (keeps_cond _ _ _ (keeps_ok d (PortSpot c) g (n, k))
    (keeps_cond _ _ _ (keeps_ok (cond c.ignored d (with_cell d c.cell)) (Line no_attributes) (ended c.ignored d c g k) (ended_name c.ignored d c n))
    (keeps_cond (bytes_eq w (codes "module")) _ _ (keeps_err SeveralModules) (keeps_err Syntax))))

-- ---- parameters

plain_number : (c : ℕ) → digit_number (plain_digit c) ≡ []
plain_number c = by (c == 48) (c == 49)
  where
    by : (a b : Bool) → digit_number (cond a (ConstDigit false) (cond b (ConstDigit true) Marker)) ≡ []
    by true b = refl
    by false true = refl
    by false false = refl

plain_numbers : (digits : List ℕ) → flat_map digit_number (map plain_digit digits) ≡ []
plain_numbers [] = refl
plain_numbers (c ∷ digits) = let a = plain_number c in rw a (plain_numbers digits)

plain_has_none : (digits : List ℕ) → digit_numbers (map plain_digit (reverse digits)) ≡ []
plain_has_none digits =
    ap (λ (x : List Digit). flat_map digit_number x) (sym (map-reverse plain_digit (reverse digits)) ∙ ap (λ (x : List ℕ). map plain_digit x) (reverse-reverse digits))
    ∙ plain_numbers digits

-- a cell with other parameters
good_parameter : (d : DraftOf) (c : CellDraftOf) (p : ParameterName) (digits : List Digit) → GoodCell d c → (IsFalse (is_value p) → digit_numbers digits ≡ []) → GoodCell d (with_parameter c p digits)
good_parameter d c p digits k h =
    let i = k.printable in
    record {
      printable = record {
        name = i.name;
        parameters = All-push IsPrintableParameter c.cell.parameters (record { name = p; digits = digits }) i.parameters h;
        ports = i.ports;
        foreign = i.foreign;
        one_foreign = i.one_foreign;
      };
      one_cell = k.one_cell;
      within = k.within;
    }

parameter_keeps : (d : DraftOf) (c : CellDraftOf) (label : Option ParameterName) (digits : List ℕ) → Good d → Named d → GoodCell d c → Keeps (cell_parameter d c label digits)
parameter_keeps d c None digits g n k = keeps_ok d (CellLine c) g (n, k)
parameter_keeps d c (Some p) digits g n k =
    let row = reverse (numbered_digits d.design.free digits) in
    keeps_if (takes_free p) _ _
    (λ e. keeps_cond (nat_le (bits d + open_digits digits) most_bits) _ _
    (keeps_ok (with_free d (open_digits digits)) (CellLine (with_parameter c p row)) g (n, good_parameter d c p row k (λ f. let bad : true ≡ false = sym e ∙ sym (value_same p) ∙ f in absurd cc)))
    (keeps_err Limit))
    (λ e. keeps_ok d (CellLine (with_parameter c p (map plain_digit (reverse digits)))) g (n, good_parameter d c p (map plain_digit (reverse digits)) k (λ f. plain_has_none digits)))

-- ---- signals

numbered_long : (n : ℕ) (digits : List ℕ) → length (numbered_bits n digits) ≡ length digits
numbered_long n [] = refl
numbered_long n (c ∷ digits) =
    elim (is_open c) as (λ (v : Bool). length (cond v (Free n ∷ numbered_bits (n + 1) digits) (plain_bit c ∷ numbered_bits n digits)) ≡ suc (length digits)) [
      | true ↦ ap suc (numbered_long (n + 1) digits)
      | false ↦ ap suc (numbered_long n digits)
    ]

not_empty : (digits : List ℕ) → is_empty digits ≡ false → 0 < length digits
not_empty [] h = absurd cc
not_empty (c ∷ digits) h = omega arith

constant_keeps : (d : DraftOf) (t : Target) (rows : List Row) (digits : List ℕ) → Good d → Named d → GoodTarget d t → ((n : ℕ) → GoodTarget (with_free d n) t) → Keeps (constant_part d t rows digits)
constant_keeps d t rows digits g n k more =
    keeps_if (is_empty digits) _ _ (λ e. keeps_err Syntax) (λ e.
    let some = not_empty digits e in
    keeps_cond (list_any is_marker digits) _ _ (keeps_err LeftOut)
    (keeps_cond (is_ignored_target t) _ _ (keeps_ok d (Part t (map plain_bit digits ∷ rows)) g (n, k, omega (arith, length-map digits plain_bit)))
    (keeps_cond (nat_le (bits d + open_digits digits) most_bits) _ _
    (keeps_ok (with_free d (open_digits digits)) (Part t (numbered_bits d.design.free digits ∷ rows)) g (n, more (open_digits digits), omega (arith, numbered_long d.design.free digits))) (keeps_err Limit))))

target_free : (d : DraftOf) (t : Target) → GoodTarget d t → (n : ℕ) → GoodTarget (with_free d n) t
target_free d (ToPort c label) k n = k
target_free d Left k n = tt
target_free d (Right left) k n = k

signal_keeps : (d : DraftOf) (t : Target) (rows : List Row) (w : Word) → Good d → Named d → GoodTarget d t → Keeps (signal_word d t rows w)
unfolding signal_word
signal_keeps d t rows w g n k = keeps_cond (bytes_eq w (codes "{")) _ _ (keeps_ok d (Signal t ([] ∷ rows)) g (n, k)) (keeps_then (needs Syntax (constant_of 1 w)) _ (λ digits e. constant_keeps d t rows digits g n k (target_free d t k)))

-- a cell with one more port
good_port : (d : DraftOf) (c : CellDraftOf) (label : Option PortName) (row : Row) → GoodCell d c → 0 < length row → GoodCell d (with_port c label row)
good_port d c None row k h = k
good_port d c (Some p) row k h =
    let i = k.printable in
    let some : 0 < length (reverse row) = omega (arith, length-reverse row) in
    record {
      printable = record {
        name = i.name;
        parameters = i.parameters;
        ports = All-push (λ (q : Port). 0 < length q.signal) c.cell.ports (record { name = p; signal = reverse row }) i.ports some;
        foreign = i.foreign;
        one_foreign = i.one_foreign;
      };
      one_cell = k.one_cell;
      within = k.within;
    }

good_connect : (d : DraftOf) (left row : Row) → Good d → 0 < length left → 0 < length row → Good (with_connect d left row)
good_connect d left row g h k = record {
  wires_named = g.wires_named;
  widths = g.widths;
  one_wire = g.one_wire;
  printable = g.printable;
  one_cell = g.one_cell;
  within = g.within;
  some = All-push HasBits d.design.connects _ g.some (h, omega (arith, length-reverse row));
}

behind_keeps : (d : DraftOf) (t : Target) (row : Row) (w : Word) → Good d → Named d → GoodTarget d t → 0 < length row → Keeps (behind_signal d t row w)
behind_keeps d (ToPort c label) row w g n k h = cell_keeps d (with_port c label row) w g n (good_port d c label row k h)
behind_keeps d Left row w g n k h = signal_keeps d (Right (reverse row)) [] w g n (omega (arith, length-reverse row))
behind_keeps d (Right left) row w g n k h = line_keeps (with_connect d left row) no_attributes w (good_connect d left row g k h) n

-- a slice has a bit
slice_some : (row part : Row) (n m : ℕ) → sliced row (n, m) ≡ Ok part → 0 < length part
slice_some row part n m e =
    by (nat_lt n (length row)) (nat_lt m (length row)) (nat_le m n) refl refl refl e
  where
    by : (a b c : Bool) → nat_lt n (length row) ≡ a → nat_lt m (length row) ≡ b → nat_le m n ≡ c → granted (cond (a && b) (cond c None (Some Syntax)) (Some Index)) (slice_row row n m) ≡ Ok part → 0 < length part
    by true true true a b c h =
        let same : slice_row row n m ≡ part = cc in
        let long = ap (λ (x : Row). length x) same in
        let inside = ltb-true n (length row) a in
        let below = leb-true m n c in
        omega (arith, long, inside, below, length-take (n + 1 - m) (drop (length row - (n + 1)) row), length-drop (length row - (n + 1)) row)
    by true true false a b c h = absurd cc
    by true false v a b c h = absurd cc
    by false u v a b c h = absurd cc

word_some : (row part : Row) (w : Word) → slice_word row w ≡ Ok part → 0 < length part
word_some row part w e = by (slice_of w) e
  where
    by : (at : Option (ℕ × ℕ)) → (needs Syntax at ⊳ sliced row) ≡ Ok part → 0 < length part
    by None h = absurd cc
    by (Some (n, m)) h = slice_some row part n m h

slice_keeps : (d : DraftOf) (t : Target) (row : Row) (rows : List Row) (w : Word) → Good d → Named d → GoodTarget d t → Keeps (slice_part d t row rows w)
slice_keeps d t row rows w g n k = keeps_then (slice_word row w) _ (λ part e. keeps_ok d (Part t (part ∷ rows)) g (n, k, word_some row part w e))

part_keeps : (d : DraftOf) (t : Target) (rows : List Row) (w : Word) → Good d → Named d → GoodTarget d t → GoodRows rows → Keeps (part_word d t rows w)
unfolding part_word
part_keeps d t [] w g n k r = keeps_err _
part_keeps d t (row ∷ []) w g n k r = keeps_cond _ _ _ (slice_keeps d t row [] w g n k) (behind_keeps d t row w g n k r)
part_keeps d t (row ∷ above ∷ rows) w g n k r =
    keeps_cond _ _ _ (slice_keeps d t row (above ∷ rows) w g n k)
    (keeps_cond _ _ _ (keeps_ok d (Part t ((above ++ row) ∷ rows)) g (n, k, omega (arith, r, length-append above row))) (signal_keeps d t ((above ++ row) ∷ rows) w g n k))

word_keeps : (d : DraftOf) (s : Spot) (w : Word) → IsGood d s → Keeps (word_step d s w)
unfolding word_step
word_keeps d (File behind) w k = file_keeps d behind w k.good k.at
word_keeps d (AutoIdx behind) w k = keeps_then (needs Syntax (number_of w)) _ (λ n e. keeps_ok d (File behind) k.good k.at)
word_keeps d (FileAttribute behind) w k = keeps_err _
word_keeps d (FileValue behind) w k = keeps_then (needs Syntax (constant_of 0 w)) _ (λ digits e. keeps_ok d (File behind) k.good k.at)
word_keeps d Module w k = keeps_err _
word_keeps d (Line a) w k = line_keeps d a w k.good k.at
word_keeps d (Attribute a) w k = keeps_err _
word_keeps d (Value a is_init) w k = keeps_then (needs Syntax (constant_of 0 w)) _ (λ digits e. keeps_ok d (Line (with_attribute a is_init digits)) k.good k.at)
word_keeps d ModuleParameter w k = keeps_err _
word_keeps d ModuleParameterValue w k = module_keeps d w (constant_of 1 w) k.good k.at
word_keeps d (WireOption a o) w k = option_keeps d a o w k.good k.at
word_keeps d (WireNumber a o option) w k = number_keeps d a o option w k.good k.at
word_keeps d CellType w k = keeps_err _
word_keeps d (CellName kind ignored) w k = keeps_err _
word_keeps d (CellLine c) w k = cell_keeps d c w k.good k.at.0 k.at.1
word_keeps d (CellParameter c) w k = keeps_cond (is_form w) _ _ (keeps_ok d (CellParameterName c) k.good k.at) (keeps_err _)
word_keeps d (CellParameterName c) w k = keeps_err _
word_keeps d (CellParameterValue c name) w k = keeps_then (needs Syntax (constant_of 1 w)) _ (λ digits e. parameter_keeps d c name digits k.good k.at.0 k.at.1)
word_keeps d (PortSpot c) w k = keeps_err _
word_keeps d (Signal t rows) w k = signal_keeps d t rows w k.good k.at.0 k.at.1
word_keeps d (Part t rows) w k = part_keeps d t rows w k.good k.at.0 k.at.1 k.at.2

-- ---- names

good_wire : (d : DraftOf) (a : AttributesOf) (o : WireOptions) (name : Word) → Good d → IsIdentifier name → 0 < unwrap_or o.width 1 → list_any (λ n. bytes_eq n name) (wire_names d.design.wires) ≡ false → Good (with_wire d (new_wire name a o))
good_wire d a o name g i some none =
    let w = new_wire name a o in
    let same : wire_names (d.design.wires ++ w ∷ []) ≡ wire_names d.design.wires ++ name ∷ [] = map-append (λ (x : WireOf). x.name) d.design.wires (w ∷ []) in
    record {
      wires_named = All-push (λ (x : WireOf). IsIdentifier x.name) d.design.wires w g.wires_named i;
      widths = All-push (λ (x : WireOf). 0 < x.width) d.design.wires w g.widths some;
      one_wire = subst (λ (x : List Word). IsDistinct bytes_eq x) (sym same) (distinct_push (wire_names d.design.wires) name g.one_wire none);
      printable = g.printable;
      one_cell = g.one_cell;
      within = g.within;
      some = g.some;
    }

wire_name_keeps : (d : DraftOf) (a : AttributesOf) (o : WireOptions) (name : Word) → Good d → Named d × (0 < unwrap_or o.width 1) → IsIdentifier name → Keeps (wire_name d a o name)
wire_name_keeps d a o name g n i =
    keeps_if (list_any (λ m. bytes_eq m name) (wire_names d.design.wires)) _ _ (λ e. keeps_err _) (λ e. keeps_ok (with_wire d (new_wire name a o)) (Line no_attributes) (good_wire d a o name g i n.1 e) n.0)

good_named : (d : DraftOf) (name : Word) → Good d → Good (record d { cells = d.cells ++ name ∷ [] })
good_named d name g = record {
  wires_named = g.wires_named;
  widths = g.widths;
  one_wire = g.one_wire;
  printable = g.printable;
  one_cell = g.one_cell;
  within = λ m h. g.within m (any_parts (λ n. bytes_eq n m) d.cells (name ∷ []) h).0;
  some = g.some;
}

no_names : IsDistinct bytes_eq []
unfolding IsDistinct
no_names = tt

good_new : (d : DraftOf) (kind : Kind) (ignored : Bool) (name : Word) → Good d → IsIdentifier name → list_any (λ n. bytes_eq n name) d.cells ≡ false → GoodCell (record d { cells = d.cells ++ name ∷ [] }) (new_cell kind name ignored)
good_new d kind ignored name g i none = record {
  printable = record { name = i; parameters = All-nil IsPrintableParameter; ports = All-nil (λ (p : Port). 0 < length p.signal); foreign = All-nil IsForeign; one_foreign = no_names };
  one_cell = distinct_push (names_in d.design.cells) name g.one_cell (g.within name none);
  within = λ m h.
      let parts = any_parts (λ n. bytes_eq n m) d.cells (name ∷ []) h in
      any_join (λ n. bytes_eq n m) (names_in d.design.cells) (name ∷ []) (g.within m parts.0) parts.1;
}

cell_name_keeps : (d : DraftOf) (kind : Kind) (ignored : Bool) (name : Word) → Good d → Named d → IsIdentifier name → Keeps (cell_name d kind ignored name)
cell_name_keeps d kind ignored name g n i =
    keeps_if (list_any (λ m. bytes_eq m name) d.cells) _ _ (λ e. keeps_err _) (λ e. keeps_ok (record d { cells = d.cells ++ name ∷ [] }) (CellLine (new_cell kind name ignored)) (good_named d name g) (n, good_new d kind ignored name g i e))

parameter_name_keeps : (d : DraftOf) (c : CellDraftOf) (name : Word) (label : Option ParameterName) → Good d → Named d → GoodCell d c → Keeps (begun_parameter d c name label)
parameter_name_keeps d c name None g n k = keeps_cond (has_parameter c name None) _ _ (keeps_err _) (keeps_ok d (CellParameterValue (named_parameter c name None) None) g (n, k))
parameter_name_keeps d c name (Some p) g n k = keeps_cond (has_parameter c name (Some p)) _ _ (keeps_err _) (keeps_ok d (CellParameterValue c (Some p)) g (n, k))

back_by : (b : ℕ) (rest : Word) (v u : Bool) → is_backslash b ≡ v → begins_name (slice_index rest 0) ≡ u → begins_name b ≡ true → identifier (cond (v && not u) rest (b ∷ rest)) ≡ b ∷ rest
back_by b rest true true e f g = rw g refl
back_by b rest true false e f g = rw f (ap (λ (x : ℕ). x ∷ rest) (sym (eqb-true b 92 e)))
back_by b rest false u e f g = rw g refl

back : (name : Word) → IsIdentifier name → identifier (bare name) ≡ name
back [] i = absurd (let h = i.begins in cc)
back (b ∷ rest) i = back_by b rest (is_backslash b) (begins_name (slice_index rest 0)) refl refl i.begins

-- what begins with the backslash has kept it
bare_shape : (name : Word) → begins_name (slice_index name 0) ≡ true → is_backslash (slice_index (bare name) 0) ≡ true → begins_name (slice_index (bare name) 1) ≡ true
bare_shape [] h k = absurd cc
bare_shape (b ∷ rest) h k = by (is_backslash b) (begins_name (slice_index rest 0)) refl refl k
  where
    by : (v u : Bool) → is_backslash b ≡ v → begins_name (slice_index rest 0) ≡ u → is_backslash (slice_index (cond (v && not u) rest (b ∷ rest)) 0) ≡ true
        → begins_name (slice_index (cond (v && not u) rest (b ∷ rest)) 1) ≡ true
    by true true e f k = f
    by true false e f k = let begins : begins_name (slice_index rest 0) ≡ true = rw k refl in let bad : false ≡ true = sym f ∙ begins in absurd cc
    by false u e f k = let bad : false ≡ true = sym e ∙ k in absurd cc

foreign_is : (name : Word) → IsIdentifier name → known_port (bare name) ≡ None → IsForeign (bare name)
foreign_is name i none = record {
  word = subst IsIdentifier (sym (back name i)) i;
  shape = bare_shape name i.begins;
  other = λ p e. let known : Some p ≡ None = sym (port_at p) ∙ ap (λ (x : Word). known_port x) e ∙ none in absurd cc;
}

good_foreign : (d : DraftOf) (c : CellDraftOf) (name : Word) → GoodCell d c → IsForeign name → list_any (λ n. bytes_eq n name) c.cell.foreign ≡ false → GoodCell d (named_port c name None)
good_foreign d c name k f none =
    let i = k.printable in
    record {
      printable = record {
        name = i.name;
        parameters = i.parameters;
        ports = i.ports;
        foreign = All-push IsForeign c.cell.foreign name i.foreign f;
        one_foreign = distinct_push c.cell.foreign name i.one_foreign none;
      };
      one_cell = k.one_cell;
      within = k.within;
    }

port_name_keeps : (d : DraftOf) (c : CellDraftOf) (name : Word) (label : Option PortName) → Good d → Named d → GoodCell d c → (label ≡ None → IsForeign name) → Keeps (begun_port d c name label)
port_name_keeps d c name None g n k f = keeps_if (has_port c name None) _ _ (λ e. keeps_err _) (λ e. keeps_ok d (Signal (ToPort (named_port c name None) None) []) g (n, good_foreign d c name k (f refl) e))
port_name_keeps d c name (Some p) g n k f = keeps_cond (has_port c name (Some p)) _ _ (keeps_err _) (keeps_ok d (Signal (ToPort c (Some p)) []) g (n, k))

place_inside : (names : List Word) (name : Word) (i : ℕ) → name_place names name ≡ Some i → i < length names
place_inside names name i h = by (position_or_len (λ n. bytes_eq n name) names) (nat_lt (position_or_len (λ n. bytes_eq n name) names) (length names)) refl h
  where
    by : (k : ℕ) (v : Bool) → nat_lt k (length names) ≡ v → cond v (Some k) None ≡ Some i → i < length names
    by k true e h = let same : k ≡ i = cc in let less = ltb-true k (length names) e in omega (arith, same, less)
    by k false e h = absurd cc

row_long : (w n : ℕ) → length (wire_row w n) ≡ n
row_long w zero = refl
row_long w (suc n) = ap suc (row_long w n)

row_some : (wires : List WireOf) (k i : ℕ) → i < length wires → AllByRecursion (λ w. 0 < w.width) wires → 0 < length (row_at k (slice_get wires i))
row_some [] k i h a = absurd (omega arith)
row_some (w ∷ wires) k zero h a = omega (arith, a.0, row_long k w.width)
row_some (w ∷ wires) k (suc i) h a = row_some wires k i (omega arith) a.1

signal_name_keeps : (d : DraftOf) (t : Target) (rows : List Row) (name : Word) → Good d → Named d → GoodTarget d t → Keeps (signal_name d t rows name)
unfolding signal_name
signal_name_keeps d t rows name g n k =
    keeps_then (needs UnknownWire (name_place (wire_names d.design.wires) name)) _ (λ i e.
    let place : name_place (wire_names d.design.wires) name ≡ Some i = needed (name_place (wire_names d.design.wires) name) i e in
    let inside = place_inside (wire_names d.design.wires) name i place in
    keeps_ok d (Part t (row_at i (slice_get d.design.wires i) ∷ rows)) g
    (n, k, row_some d.design.wires i i (omega (arith, inside, length-map d.design.wires (λ (w : WireOf). w.name))) (recursion_from_All (λ (w : WireOf). 0 < w.width) d.design.wires g.widths)))
  where
    needed : (r : Option ℕ) (i : ℕ) → needs UnknownWire r ≡ Ok i → r ≡ Some i
    needed None i e = absurd cc
    needed (Some j) i e = let same : j ≡ i = cc in ap (λ (x : ℕ). Some x) same

name_behind_keeps : (d : DraftOf) (t : Target) (row : Row) (name : Word) → Good d → Named d → GoodTarget d t → 0 < length row → Keeps (name_behind d t row name)
name_behind_keeps d (ToPort c port) row name g n k h = keeps_err _
name_behind_keeps d Left row name g n k h = signal_name_keeps d (Right (reverse row)) [] name g n (omega (arith, length-reverse row))
name_behind_keeps d (Right left) row name g n k h = keeps_err _

part_name_keeps : (d : DraftOf) (t : Target) (rows : List Row) (name : Word) → Good d → Named d → GoodTarget d t → GoodRows rows → Keeps (part_name d t rows name)
unfolding part_name
part_name_keeps d t [] name g n k r = keeps_err _
part_name_keeps d t (row ∷ []) name g n k r = name_behind_keeps d t row name g n k r
part_name_keeps d t (row ∷ above ∷ rows) name g n k r = signal_name_keeps d t ((above ++ row) ∷ rows) name g n k

good_start : (name : Word) → Good (new_draft name)
good_start name = record {
  wires_named = All-nil (λ (w : WireOf). IsIdentifier w.name);
  widths = All-nil (λ (w : WireOf). 0 < w.width);
  one_wire = no_names;
  printable = All-nil IsPrintableCell;
  one_cell = no_names;
  within = λ m h. refl;
  some = All-nil HasBits;
}

name_keeps : (d : DraftOf) (s : Spot) (name : Word) → IsIdentifier name → IsGood d s → Keeps (name_step d s name)
unfolding name_step
name_keeps d (File behind) name i k = keeps_err _
name_keeps d (AutoIdx behind) name i k = keeps_err _
name_keeps d (FileAttribute behind) name i k = keeps_ok d (FileValue behind) k.good k.at
name_keeps d (FileValue behind) name i k = keeps_err _
name_keeps d Module name i k = keeps_ok (new_draft name) (Line no_attributes) (good_start name) i
name_keeps d (Line a) name i k = keeps_err _
name_keeps d (Attribute a) name i k = keeps_ok d (Value a _) k.good k.at
name_keeps d (Value a is_init) name i k = keeps_err _
name_keeps d ModuleParameter name i k = keeps_ok d ModuleParameterValue k.good k.at
name_keeps d ModuleParameterValue name i k = keeps_err _
name_keeps d (WireOption a o) name i k = wire_name_keeps d a o name k.good k.at i
name_keeps d (WireNumber a o option) name i k = keeps_err _
name_keeps d CellType name i k = keeps_ok d (CellName _ _) k.good k.at
name_keeps d (CellName kind ignored) name i k = cell_name_keeps d kind ignored name k.good k.at i
name_keeps d (CellLine c) name i k = keeps_err _
name_keeps d (CellParameter c) name i k = parameter_name_keeps d c _ _ k.good k.at.0 k.at.1
name_keeps d (CellParameterName c) name i k = parameter_name_keeps d c _ _ k.good k.at.0 k.at.1
name_keeps d (CellParameterValue c label) name i k = keeps_err _
name_keeps d (PortSpot c) name i k = port_name_keeps d c (bare name) (known_port (bare name)) k.good k.at.0 k.at.1 (λ none. foreign_is name i none)
name_keeps d (Signal t rows) name i k = signal_name_keeps d t rows name k.good k.at.0 k.at.1
name_keeps d (Part t rows) name i k = part_name_keeps d t rows name k.good k.at.0 k.at.1 k.at.2

-- ---- texts

-- a word of some text
abbrev IsWord : Word → Type 0
IsWord w = (rest : List ℕ) × IsToken w rest

words_are : (n : ℕ) (bytes : List ℕ) (ts : List TokenOf) → Lexes n bytes ts → AllByRecursion IsWord (words_of ts)
words_are n bytes ts (last_gap all g) = tt
words_are n bytes ts (token t others all rest g p e l) = ((rest, p), words_are n rest others l)

step_keeps : (d : DraftOf) (s : Spot) (w : Word) → IsWord w → IsGood d s → Keeps (step d s w)
step_keeps d s w p k =
    keeps_if (begins_name (slice_index w 0)) _ _ (λ e. keeps_if (is_utf8 w) _ _ (λ u. name_keeps d s w (identifier_is w p.0 p.1 e u) k) (λ u. keeps_err _)) (λ e. word_keeps d s w k)

steps_keep : (d : DraftOf) (s : Spot) (ws : List Word) → AllByRecursion IsWord ws → IsGood d s → Keeps (steps d s ws)
steps_keep d s [] p k = keeps_ok d s k.good k.at
steps_keep d s (w ∷ ws) p k = keeps_on (step d s w) (λ x. steps x.0 x.1 ws) (step_keeps d s w p.0 k) (λ x h. steps_keep x.0 x.1 ws p.1 h)

good_of : (r : Outcome) (d : DraftOf) (s : Spot) → r ≡ Ok (d, s) → Keeps r → IsGood d s
unfolding Keeps
good_of r d s e h = subst Keeps e h

-- but for the order of free bits, each design that is read is printable
pub read_printable : (text : List ℕ) (d : DesignOf) → Reads text d → IsDesign d → design_numbers d ≡ range_with_len 0 d.free → IsPrintable d
read_printable text d r is numbers =
    let start : IsGood (new_draft []) (File false) = record { good = good_start []; at = tt } in
    let draft : DraftOf = record { design = d; cells = r.cells } in
    let k = good_of (steps (new_draft []) (File false) (words_of r.tokens)) draft (File true) r.whole (steps_keep (new_draft []) (File false) (words_of r.tokens) (words_are (length text) text r.tokens r.lexes) start) in
    let g = k.good in
    record {
      design = is;
      few_bits = (reading_kept r.tokens draft (File true) r.whole).bits;
      name = k.at;
      wires = g.wires_named;
      cells = g.printable;
      connects = g.some;
      one_wire = g.one_wire;
      one_cell = g.one_cell;
      numbers = numbers;
    }
