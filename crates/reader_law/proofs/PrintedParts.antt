-- The printed signals, cells and wires are texts of them, and go on with a module's text.
use Rattle.std.proofs.Common.{◌≡◌, ℕ, zero, suc, ◌+◌, ◌<◌, ◌≤◌, ◌^◌, Bool, true, false, List, [], ◌∷◌, ◌++◌, map, length, reverse, take, drop, flat_map, Option, Some, None, refl, sym, ap, ◌∙◌, subst, append-nil, append_assoc, arith, bytes_eq}
use Rattle.std.specs.Prelude.{codes, decimal, All}
use Rattle.std.specs.List.{AllByRecursion, AllZip, IsDistinct, list_all, list_any, range_with_len, sum_by}
use Rattle.std.proofs.lemmas.Fmt.{decimal_is_IsNumeral}
use Rattle.std.proofs.lemmas.Grind.{flat_map-append}
use Rattle.std.proofs.lemmas.List.{length-map, length-reverse, map-append, reverse-append, reverse-reverse, take_all}
use Rattle.std.proofs.lemmas.List.Sums.{sum_by-append, sum_by-cons}
use Rattle.std.proofs.lemmas.List.Elements.{recursion_from_All}
use Rattle.indexmap.proofs.ReorderLemmas.{map-reverse}
use Rattle.cell_table.specs.declared.kind.Kind.{Kind}
use Rattle.design_core.specs.Ports.{names_parameter}
use Rattle.design_core.specs.Shape.{WireOf, CellOf, ConnectOf, DesignOf, IsCellOf, IsConnectOf, IsDeclared, wire_bits}
use Rattle.design_core.specs.declared.digit.Digit.{Digit}
use Rattle.design_core.specs.declared.digit.Digit.TheVariants.{Const as ConstDigit, Free as FreeDigit, Marker}
use Rattle.design_core.specs.declared.parts.Parameter.{Parameter}
use Rattle.design_core.specs.declared.parts.Port.{Port}
use Rattle.design_signals.specs.declared.sig_bit.SigBit.{SigBit}
use Rattle.design_signals.specs.declared.sig_bit.SigBit.TheVariants.{Wire, Const, Free}
use Rattle.rtlil_constant.specs.Constants.{Word}
use Rattle.design_reader.specs.Grammar.{most_bits, wire_names}
use Rattle.design_reader.proofs.Declared.{reverse_all}
use Rattle.reader_law.specs.Printed.{Line, IsForeign, IsIdentifier, IsPrintableCell, IsPrintableParameter, bit_number, bit_words, cell_lines, cell_numbers, connect_line, connect_numbers, constant_word, digit_character, digit_number, digit_numbers, foreign_line, index_word, init_line, input_words, is_value, kind_text, name_in, parameter_line, port_line, signal_numbers, signal_words, start_character, wire_line, wire_lines}
use Rattle.reader_law.specs.ConstantTexts.{State, state_digits, IsAttributeText, IsConstantText, IsNumberText}
use Rattle.reader_law.specs.ConstantTexts.State.{Zero, One, Undefined, Marked}
use Rattle.reader_law.specs.ConstantTexts.IsStringText.{empty}
use Rattle.reader_law.specs.ConstantTexts.IsConstantText.{string}
use Rattle.reader_law.specs.ConstantTexts.IsAttributeText.{constant as attribute_constant}
use Rattle.reader_law.specs.SignalTexts.{IsSignalText}
use Rattle.reader_law.specs.SignalTexts.IsSignalText.{wire, constant, bit, braces, last, above}
use Rattle.reader_law.specs.CellTexts.{CellBodyOf, IsCellBody, IsCellText, IsDigitOf, IsPlainDigit, IsValueDigit}
use Rattle.reader_law.specs.CellTexts.IsForm.{no_form}
use Rattle.reader_law.specs.CellTexts.IsTypeText.{named as named_type}
use Rattle.reader_law.specs.CellTexts.IsNamedType.{printed}
use Rattle.reader_law.specs.CellTexts.IsCellBody.{no_lines, parameter, port, foreign_port}
use Rattle.reader_law.specs.WireTexts.{IsAttributes, IsOptions, IsWireText, start_bits, start_of}
use Rattle.reader_law.specs.WireTexts.IsAttributes.{no_attribute, init}
use Rattle.reader_law.specs.WireTexts.IsOptions.{no_option, width, input}
use Rattle.reader_law.specs.FileTexts.{IsModuleText}
use Rattle.reader_law.specs.FileTexts.IsModuleText.{wire as wire_module, connect, cell}
use Rattle.reader_law.proofs.Steps.{Bits, AreNamed, Next, next_rises, next_split}
use Rattle.reader_law.proofs.PrintedWords.{both_tests}
use Rattle.reader_law.proofs.CellWords.{HasBits, HasShort, IsShort, connect_lines, fresh_name, kind_identifier, words_in}
use Rattle.reader_law.proofs.ConstantSteps.{printed_constant}

-- ---- signals

one_bit : (w a n i : ℕ) → i < n → take 1 (drop i (map (λ b. Wire w b) (range_with_len a n))) ≡ Wire w (a + i) ∷ []
one_bit w a zero i h = absurd (omega arith)
one_bit w a (suc n) zero h = let same : a ≡ a + 0 = omega arith in ap (λ (k : ℕ). Wire w k ∷ []) same
one_bit w a (suc n) (suc i) h = let same : a + 1 + i ≡ a + suc i = omega arith in one_bit w (a + 1) n i (omega arith) ∙ ap (λ (k : ℕ). Wire w k ∷ []) same

range_long : (a n : ℕ) → length (range_with_len a n) ≡ n
range_long a zero = refl
range_long a (suc n) = ap suc (range_long (a + 1) n)

bit_text : (wires : List WireOf) (total : ℕ) (b : SigBit) → AreNamed wires → IsDeclared wires total b → IsSignalText wires false (bit_words wires b) (b ∷ []) (bit_number b)
bit_text wires total (Wire w i) n (x, at, lt) =
    let numbers = range_with_len 0 x.width in
    let row : Bits = map (λ b. Wire w b) numbers in
    let long : length row ≡ x.width = length-map numbers (λ (b : ℕ). Wire w b) ∙ range_long 0 x.width in
    let same : 0 + i ≡ i = omega arith in
    let text = bit (x.name ∷ []) row [] (decimal i) i (decimal_is_IsNumeral i (omega (arith, lt, n.widths w x at))) (omega (arith, lt, long)) (wire w x at) in
    subst (λ (o : Option WireOf). IsSignalText wires false (name_in o ∷ index_word i ∷ []) (Wire w i ∷ []) []) (sym at)
    (subst (λ (s : Bits). IsSignalText wires false (x.name ∷ index_word i ∷ []) s []) (one_bit w 0 x.width i lt ∙ ap (λ (k : ℕ). Wire w k ∷ []) same) text)
bit_text wires total (Const true) n h = constant (constant_word (49 ∷ [])) (One ∷ []) (Const true ∷ []) (omega arith) (printed_constant (One ∷ []) (omega arith) (omega arith)) (refl, tt)
bit_text wires total (Const false) n h = constant (constant_word (48 ∷ [])) (Zero ∷ []) (Const false ∷ []) (omega arith) (printed_constant (Zero ∷ []) (omega arith) (omega arith)) (refl, tt)
bit_text wires total (Free k) n h = constant (constant_word (120 ∷ [])) (Undefined ∷ []) (Free k ∷ []) (omega arith) (printed_constant (Undefined ∷ []) (omega arith) (omega arith)) ((k, refl), tt)

row_text : (wires : List WireOf) (total : ℕ) (b : SigBit) (row : Bits) → AreNamed wires → AllByRecursion (IsDeclared wires total) (b ∷ row)
    → IsSignalText wires true (flat_map (bit_words wires) (b ∷ row)) (reverse (b ∷ row)) (flat_map bit_number (b ∷ row))
row_text wires total b [] n h =
    subst (λ (ws : Line). IsSignalText wires true ws (b ∷ []) (bit_number b ++ [])) (sym (append-nil (bit_words wires b)))
    (subst (λ (ns : List ℕ). IsSignalText wires true (bit_words wires b) (b ∷ []) ns) (sym (append-nil (bit_number b))) (last (bit_words wires b) (b ∷ []) (bit_number b) (bit_text wires total b n h.0)))
row_text wires total b (c ∷ row) n h =
    let ws = flat_map (bit_words wires) (c ∷ row) in
    let ns = flat_map bit_number (c ∷ row) in
    subst (λ (s : Bits). IsSignalText wires true (bit_words wires b ++ ws) s (bit_number b ++ ns)) (sym (reverse-append (b ∷ []) (c ∷ row)))
    (above (bit_words wires b) ws (b ∷ []) (reverse (c ∷ row)) (bit_number b) ns (bit_text wires total b n h.0) (row_text wires total c row n h.1))

signal_text : (wires : List WireOf) (total : ℕ) (signal : Bits) → AreNamed wires → 0 < length signal → All (IsDeclared wires total) signal → IsSignalText wires false (signal_words wires signal) signal (signal_numbers signal)
signal_text wires total signal n some h =
    let declared = recursion_from_All (IsDeclared wires total) (reverse signal) (reverse_all (IsDeclared wires total) signal h) in
    braces (flat_map (bit_words wires) (reverse signal)) signal (signal_numbers signal)
    (subst (λ (s : Bits). IsSignalText wires true (flat_map (bit_words wires) (reverse signal)) s (signal_numbers signal)) (reverse-reverse signal) (by (reverse signal) (omega (arith, some, length-reverse signal)) declared))
  where
    by : (row : Bits) → 0 < length row → AllByRecursion (IsDeclared wires total) row → IsSignalText wires true (flat_map (bit_words wires) row) (reverse row) (flat_map bit_number row)
    by [] few a = absurd (omega arith)
    by (b ∷ row) few a = row_text wires total b row n a

-- ---- parameters

digit_state : Digit → State
digit_state (ConstDigit true) = One
digit_state (ConstDigit false) = Zero
digit_state (FreeDigit n) = Undefined
digit_state Marker = Marked

digits_same : (row : List Digit) → state_digits (map digit_state row) ≡ map digit_character row
unfolding digit_state
digits_same [] = refl
digits_same (ConstDigit true ∷ row) = ap (λ (x : List ℕ). 49 ∷ x) (digits_same row)
digits_same (ConstDigit false ∷ row) = ap (λ (x : List ℕ). 48 ∷ x) (digits_same row)
digits_same (FreeDigit n ∷ row) = ap (λ (x : List ℕ). 120 ∷ x) (digits_same row)
digits_same (Marker ∷ row) = ap (λ (x : List ℕ). 109 ∷ x) (digits_same row)

-- a printed constant, which is an empty string where there is no digit
states_text : (states : List State) → length states < 2 ^ 64 → IsConstantText (constant_word (state_digits states)) states
states_text [] few = string [] [] empty
states_text (s ∷ states) few = printed_constant (s ∷ states) (omega arith) few

value_zip : (row : List Digit) → AllZip IsValueDigit (map digit_state row) row
unfolding digit_state
value_zip [] = tt
value_zip (ConstDigit true ∷ row) = (refl, value_zip row)
value_zip (ConstDigit false ∷ row) = (refl, value_zip row)
value_zip (FreeDigit n ∷ row) = ((n, refl), value_zip row)
value_zip (Marker ∷ row) = (refl, value_zip row)

plain_zip : (row : List Digit) → flat_map digit_number row ≡ [] → AllZip IsPlainDigit (map digit_state row) row
unfolding digit_state
plain_zip [] h = tt
plain_zip (ConstDigit true ∷ row) h = (refl, plain_zip row h)
plain_zip (ConstDigit false ∷ row) h = (refl, plain_zip row h)
plain_zip (FreeDigit n ∷ row) h = absurd cc
plain_zip (Marker ∷ row) h = (refl, plain_zip row h)

parameter_zip : (p : Parameter) → IsPrintableParameter p → AllZip (IsDigitOf (is_value p.name)) (map digit_state (reverse p.digits)) (reverse p.digits)
parameter_zip p printable =
    elim (is_value p.name) as (λ (v : Bool). is_value p.name ≡ v → AllZip (IsDigitOf v) (map digit_state (reverse p.digits)) (reverse p.digits)) [
      | true ↦ λ e. value_zip (reverse p.digits)
      | false ↦ λ e. plain_zip (reverse p.digits) (printable e)
    ] refl

-- ---- a cell

abbrev body_of : List Parameter → List Port → List Word → CellBodyOf
body_of parameters ports foreign = record { parameters = parameters; ports = ports; foreign = foreign; others = []; numbers = flat_map (λ p. digit_numbers p.digits) parameters ++ flat_map (λ p. signal_numbers p.signal) ports }

foreign_body : (wires : List WireOf) (kind : Kind) (names : List Word) → AllByRecursion IsForeign names → IsCellBody wires kind (words_in (map foreign_line names)) (body_of [] [] names)
foreign_body wires kind [] f = no_lines
foreign_body wires kind (n ∷ names) f =
    let zero_text : IsSignalText wires false (constant_word (codes "0") ∷ []) (Const false ∷ []) [] = constant (constant_word (48 ∷ [])) (Zero ∷ []) (Const false ∷ []) (omega arith) (printed_constant (Zero ∷ []) (omega arith) (omega arith)) (refl, tt) in
    foreign_port n (Const false ∷ []) [] (constant_word (codes "0") ∷ []) (words_in (map foreign_line names)) (body_of [] [] names) f.0 zero_text (foreign_body wires kind names f.1)

ports_body : (wires : List WireOf) (kind : Kind) (total : ℕ) (ports : List Port) (foreign : List Word) → AreNamed wires → AllByRecursion (λ p. All (IsDeclared wires total) p.signal) ports → AllByRecursion (λ p. 0 < length p.signal) ports
    → AllByRecursion IsForeign foreign → IsCellBody wires kind (words_in (map (port_line wires) ports ++ map foreign_line foreign)) (body_of [] ports foreign)
ports_body wires kind total [] foreign n declared some f = foreign_body wires kind foreign f
ports_body wires kind total (p ∷ ports) foreign n declared some f =
    port p (signal_numbers p.signal) (signal_words wires p.signal) (words_in (map (port_line wires) ports ++ map foreign_line foreign)) (body_of [] ports foreign) (signal_text wires total p.signal n some.0 declared.0)
    (ports_body wires kind total ports foreign n declared.1 some.1 f)

parameters_body : (wires : List WireOf) (kind : Kind) (parameters : List Parameter) (ports : List Port) (foreign : List Word) (ws : Line) → list_all (λ p. names_parameter kind p.name) parameters ≡ true → AllByRecursion IsShort parameters
    → AllByRecursion IsPrintableParameter parameters → IsCellBody wires kind ws (body_of [] ports foreign) → IsCellBody wires kind (words_in (map parameter_line parameters) ++ ws) (body_of parameters ports foreign)
parameters_body wires kind [] ports foreign ws named short printable body = body
parameters_body wires kind (p ∷ parameters) ports foreign ws named short printable body =
    let names = both_tests (names_parameter kind p.name) _ named in
    let states = map digit_state (reverse p.digits) in
    let inner = body_of parameters ports foreign in
    let few : length states < 2 ^ 64 = omega (arith, short.0, length-map (reverse p.digits) digit_state, length-reverse p.digits) in
    let value : IsConstantText (constant_word (map digit_character (reverse p.digits))) states = subst (λ (ds : List ℕ). IsConstantText (constant_word ds) states) (digits_same (reverse p.digits)) (states_text states few) in
    let more = words_in (map parameter_line parameters) ++ ws in
    subst (λ (ns : List ℕ). IsCellBody wires kind (words_in (map parameter_line (p ∷ parameters)) ++ ws) (record inner { parameters = p ∷ parameters; numbers = ns }))
    (sym (append_assoc (digit_numbers p.digits) (flat_map (λ q. digit_numbers q.digits) parameters) (flat_map (λ q. signal_numbers q.signal) ports)))
    (parameter [] p (constant_word (map digit_character (reverse p.digits))) states more inner no_form names.0 value (parameter_zip p printable.0) (parameters_body wires kind parameters ports foreign ws names.1 short.1 printable.1 body))

none_apart : IsDistinct bytes_eq (wire_names [])
unfolding IsDistinct
none_apart = tt

cell_text : (wires : List WireOf) (total : ℕ) (c : CellOf) → AreNamed wires → IsCellOf wires total c → IsPrintableCell c → HasShort c → IsCellText wires (words_in (cell_lines wires c)) c (cell_numbers c)
cell_text wires total c n is printable few =
    let foreign = map foreign_line c.foreign in
    let ports = map (port_line wires) c.ports in
    let parameters = map parameter_line c.parameters in
    let ending : List Line = (codes "end" ∷ []) ∷ [] in
    let body = ports_body wires c.kind total c.ports c.foreign n (recursion_from_All (λ (p : Port). All (IsDeclared wires total) p.signal) c.ports is.ports) (recursion_from_All (λ (p : Port). 0 < length p.signal) c.ports printable.ports)
    (recursion_from_All IsForeign c.foreign printable.foreign) in
    let regrouped : words_in (parameters ++ (ports ++ (foreign ++ ending))) ≡ (words_in parameters ++ words_in (ports ++ foreign)) ++ codes "end" ∷ [] =
    flat_map-append (λ (l : Line). l) parameters (ports ++ (foreign ++ ending))
    ∙ ap (λ (x : List Line). words_in parameters ++ words_in x) (sym (append_assoc ports foreign ending))
    ∙ ap (λ (x : List Word). words_in parameters ++ x) (flat_map-append (λ (l : Line). l) (ports ++ foreign) ending)
    ∙ sym (append_assoc (words_in parameters) (words_in (ports ++ foreign)) (codes "end" ∷ [])) in
    record {
      type_word = kind_text c.kind;
      lines = words_in parameters ++ words_in (ports ++ foreign);
      others = [];
      are = ap (λ (x : List Word). codes "cell" ∷ kind_text c.kind ∷ c.name ∷ x) regrouped;
      type_name = kind_identifier c.kind;
      is_type = named_type (kind_text c.kind) c.kind (printed c.kind);
      name = printable.name;
      body = parameters_body wires c.kind c.parameters c.ports c.foreign (words_in (ports ++ foreign)) is.named few (recursion_from_All IsPrintableParameter c.parameters printable.parameters) body;
      apart = record { one_parameter = is.one_parameter; one_port = is.one_port; one_foreign = printable.one_foreign; one_other = none_apart };
    }

-- ---- a wire

start_state : Option Bool → State
start_state None = Undefined
start_state (Some true) = One
start_state (Some false) = Zero

starts_same : (row : List (Option Bool)) → state_digits (map start_state row) ≡ map start_character row
unfolding start_state
starts_same [] = refl
starts_same (None ∷ row) = ap (λ (x : List ℕ). 120 ∷ x) (starts_same row)
starts_same (Some true ∷ row) = ap (λ (x : List ℕ). 49 ∷ x) (starts_same row)
starts_same (Some false ∷ row) = ap (λ (x : List ℕ). 48 ∷ x) (starts_same row)

starts_back : (row : List (Option Bool)) → map start_of (map start_state row) ≡ row
unfolding start_state
starts_back [] = refl
starts_back (None ∷ row) = ap (λ (x : List (Option Bool)). None ∷ x) (starts_back row)
starts_back (Some true ∷ row) = ap (λ (x : List (Option Bool)). Some true ∷ x) (starts_back row)
starts_back (Some false ∷ row) = ap (λ (x : List (Option Bool)). Some false ∷ x) (starts_back row)

abbrev start_states : List (Option Bool) → List State
start_states start = map start_state (reverse start)

start_text : (start : List (Option Bool)) → length start ≤ most_bits → IsAttributeText (constant_word (map start_character (reverse start))) (start_states start)
start_text start few =
    let states = start_states start in
    let short : length states < 2 ^ 64 = omega (arith, few, length-map (reverse start) start_state, length-reverse start) in
    attribute_constant (constant_word (map start_character (reverse start))) states (subst (λ (ds : List ℕ). IsConstantText (constant_word ds) states) (starts_same (reverse start)) (states_text states short))

inits_text : (inits : List (List (Option Bool))) → AllByRecursion (λ s. length s ≤ most_bits) inits → IsAttributes (words_in (map init_line inits)) (map start_states inits)
inits_text [] few = no_attribute
inits_text (s ∷ inits) few = init (constant_word (map start_character (reverse s))) (start_states s) (words_in (map init_line inits)) (map start_states inits) (start_text s few.0) (inits_text inits few.1)

start_same : (n : ℕ) (start : List (Option Bool)) → length start ≤ n → start_bits n (start_states start) ≡ start
start_same n start short =
    let turned : reverse (start_states start) ≡ map start_state start = ap (λ (x : List State). reverse x) (map-reverse start_state start) ∙ reverse-reverse (map start_state start) in
    let whole : take n (map start_state start) ≡ map start_state start = take_all n (map start_state start) (omega (arith, short, length-map start start_state)) in
    ap (λ (x : List State). map start_of (take n x)) turned ∙ ap (λ (x : List State). map start_of x) whole ∙ starts_back start

inits_same : (n : ℕ) (inits : List (List (Option Bool))) → AllByRecursion (λ s. length s ≤ n) inits → inits ≡ map (start_bits n) (map start_states inits)
inits_same n [] short = refl
inits_same n (s ∷ inits) short =
    ap (λ (x : List (Option Bool)). x ∷ inits) (sym (start_same n s short.0)) ∙ ap (λ (x : List (List (Option Bool))). start_bits n (start_states s) ∷ x) (inits_same n inits short.1)

one_number : IsNumberText (codes "1") 1
one_number = ((omega arith, (omega arith, tt)), refl)

input_option : (is_input : Bool) → IsOptions (input_words is_input) None is_input
input_option true = input (codes "1") 1 [] None false one_number no_option
input_option false = no_option

-- what is true of a wire that is printed
pub record IsPrintableWire (w : WireOf) : Type 0 where
  pub name : IsIdentifier w.name
  pub some : 0 < w.width
  pub short : AllByRecursion (λ s. length s ≤ w.width) w.inits

all_shorter : (n m : ℕ) (starts : List (List (Option Bool))) → n ≤ m → AllByRecursion (λ s. length s ≤ n) starts → AllByRecursion (λ s. length s ≤ m) starts
all_shorter n m [] h k = tt
all_shorter n m (s ∷ starts) h k = (omega (arith, k.0), all_shorter n m starts h k.1)

wire_text : (w : WireOf) → IsPrintableWire w → w.width ≤ most_bits → IsWireText (words_in (wire_lines w)) w
wire_text w p few = record {
  attributes = words_in (map init_line w.inits);
  inits = map start_states w.inits;
  options = codes "width" ∷ decimal w.width ∷ input_words w.input;
  given = Some w.width;
  are = flat_map-append (λ (l : Line). l) (map init_line w.inits) (wire_line w ∷ []) ∙ ap (λ (x : List Word). words_in (map init_line w.inits) ++ x) (append-nil (wire_line w));
  is_attributes = inits_text w.inits (all_shorter w.width most_bits w.inits few p.short);
  is_options = width (decimal w.width) w.width (input_words w.input) w.input (decimal_is_IsNumeral w.width (omega (arith, few))) p.some (input_option w.input);
  name = p.name;
  bits = refl;
  starts = inits_same w.width w.inits p.short;
}

-- ---- a module

pub wires_module : (ws : Line) (d : DesignOf) (names : List Word) (xs : List WireOf) → IsModuleText ws d names → AllByRecursion IsPrintableWire xs → IsDistinct bytes_eq (wire_names (d.wires ++ xs)) → wire_bits (record d { wires = d.wires ++ xs }) + d.free ≤ most_bits
    → IsModuleText (ws ++ words_in (flat_map wire_lines xs)) (record d { wires = d.wires ++ xs }) names
wires_module ws d names [] p fine distinct room =
    subst (λ (x : Line). IsModuleText x (record d { wires = d.wires ++ [] }) names) (sym (append-nil ws)) (subst (λ (x : List WireOf). IsModuleText ws (record d { wires = x }) names) (sym (append-nil d.wires)) p)
wires_module ws d names (w ∷ xs) p fine distinct room =
    let bits_of = λ (x : WireOf). x.width in
    let whole : (d.wires ++ w ∷ []) ++ xs ≡ d.wires ++ w ∷ xs = append_assoc d.wires (w ∷ []) xs in
    let apart : IsDistinct bytes_eq (wire_names d.wires ++ w.name ∷ wire_names xs) = subst (λ (x : List Word). IsDistinct bytes_eq x) (map-append (λ (x : WireOf). x.name) d.wires (w ∷ xs)) distinct in
    let sums = sum_by-append bits_of d.wires (w ∷ xs) in
    let tail : sum_by bits_of (w ∷ xs) ≡ w.width + sum_by bits_of xs = sum_by-cons bits_of w xs in
    let few : wire_bits d + d.free + w.width ≤ most_bits = omega (arith, room, sums, tail) in
    let us = words_in (wire_lines w) in
    let first = wire_module ws us d names w p (wire_text w fine.0 (omega arith)) (fresh_name (wire_names d.wires) w.name (wire_names xs) apart) few in
    let more = wires_module (ws ++ us) (record d { wires = d.wires ++ w ∷ [] }) names xs first fine.1 (subst (λ (x : List WireOf). IsDistinct bytes_eq (wire_names x)) (sym whole) distinct) (subst (λ (x : List WireOf). sum_by bits_of x + d.free ≤ most_bits) (sym whole) room) in
    let words : (ws ++ us) ++ words_in (flat_map wire_lines xs) ≡ ws ++ words_in (wire_lines w ++ flat_map wire_lines xs) =
    append_assoc ws us (words_in (flat_map wire_lines xs)) ∙ ap (λ (x : List Word). ws ++ x) (sym (flat_map-append (λ (l : Line). l) (wire_lines w) (flat_map wire_lines xs))) in
    subst (λ (x : Line). IsModuleText x (record d { wires = d.wires ++ w ∷ xs }) names) words (subst (λ (x : List WireOf). IsModuleText ((ws ++ us) ++ words_in (flat_map wire_lines xs)) (record d { wires = x }) names) whole more)

-- the numbers from n up to m are these
next_are : (n m : ℕ) (ks : List ℕ) → Next n ks m → (ks ≡ range_with_len n (length ks)) × (n + length ks ≡ m)
next_are n m [] h = (refl, omega arith)
next_are n m (k ∷ ks) h = let r = next_are (n + 1) m ks h.1 in (ap (λ (x : ℕ). x ∷ ks) h.0 ∙ ap (λ (x : List ℕ). n ∷ x) r.0, omega (arith, r.1))

-- with other cells and connects, and this many free bits
abbrev pub filled : DesignOf → List CellOf → List ConnectOf → ℕ → DesignOf
filled d cells connects m = record d { cells = cells; connects = connects; free = m }

connect_same : (j : ConnectOf) (n : ℕ) → j.cells_before ≡ n → record { left = j.left; right = j.right; cells_before = n } ≡ j
connect_same j n e = rw (sym e) refl

connect_module : (ws : Line) (d : DesignOf) (names : List Word) (j : ConnectOf) (m total : ℕ) → IsModuleText ws d names → AreNamed d.wires → IsConnectOf d.wires total j → HasBits j → j.cells_before ≡ length d.cells → Next d.free (connect_numbers j) m
    → wire_bits d + m ≤ most_bits → IsModuleText (ws ++ connect_line d.wires j) (filled d d.cells (d.connects ++ j ∷ []) m) names
connect_module ws d names j m total p named is some at next room =
    let count = length (connect_numbers j) in
    let are = next_are d.free m (connect_numbers j) next in
    let text = connect ws (signal_words d.wires j.left) (signal_words d.wires j.right) d names j.left j.right (signal_numbers j.left) (signal_numbers j.right) count p
    (signal_text d.wires total j.left named some.0 is.0) (signal_text d.wires total j.right named some.1 is.1) are.0 (omega (arith, room, are.1)) in
    subst (λ (k : ℕ). IsModuleText (ws ++ connect_line d.wires j) (filled d d.cells (d.connects ++ j ∷ []) k) names) are.1
    (subst (λ (i : ConnectOf). IsModuleText (ws ++ connect_line d.wires j) (filled d d.cells (d.connects ++ i ∷ []) (d.free + count)) names) (connect_same j (length d.cells) at) text)

pub connects_module : (ws : Line) (d : DesignOf) (names : List Word) (js : List ConnectOf) (m total : ℕ) → IsModuleText ws d names → AreNamed d.wires → AllByRecursion (IsConnectOf d.wires total) js → AllByRecursion HasBits js
    → AllByRecursion (λ j. j.cells_before ≡ length d.cells) js → Next d.free (flat_map connect_numbers js) m → wire_bits d + m ≤ most_bits
    → IsModuleText (ws ++ words_in (connect_lines d.wires js)) (filled d d.cells (d.connects ++ js) m) names
connects_module ws d names [] m total p named is some at next room =
    subst (λ (x : Line). IsModuleText x (filled d d.cells (d.connects ++ []) m) names) (sym (append-nil ws))
    (subst (λ (x : List ConnectOf). IsModuleText ws (filled d d.cells x m) names) (sym (append-nil d.connects)) (subst (λ (k : ℕ). IsModuleText ws (filled d d.cells d.connects k) names) next p))
connects_module ws d names (j ∷ js) m total p named is some at next room =
    let split = next_split d.free m (connect_numbers j) (flat_map connect_numbers js) next in
    let k = split.0 in
    let lower : k ≤ m = next_rises k m (flat_map connect_numbers js) split.2 in
    let line = connect_line d.wires j in
    let first = connect_module ws d names j k total p named is.0 some.0 at.0 split.1 (omega (arith, room, lower)) in
    let more = connects_module (ws ++ line) (filled d d.cells (d.connects ++ j ∷ []) k) names js m total first named is.1 some.1 at.1 split.2 room in
    subst (λ (x : Line). IsModuleText x (filled d d.cells (d.connects ++ j ∷ js) m) names) (append_assoc ws line (words_in (connect_lines d.wires js)))
    (subst (λ (x : List ConnectOf). IsModuleText ((ws ++ line) ++ words_in (connect_lines d.wires js)) (filled d d.cells x m) names) (append_assoc d.connects (j ∷ []) js) more)

pub cell_module : (ws : Line) (d : DesignOf) (names : List Word) (c : CellOf) (m total : ℕ) → IsModuleText ws d names → AreNamed d.wires → IsCellOf d.wires total c → IsPrintableCell c → HasShort c → list_any (λ n. bytes_eq n c.name) names ≡ false
    → Next d.free (cell_numbers c) m → wire_bits d + m ≤ most_bits → IsModuleText (ws ++ words_in (cell_lines d.wires c)) (filled d (d.cells ++ c ∷ []) d.connects m) (names ++ c.name ∷ [])
cell_module ws d names c m total p named is printable few none next room =
    let count = length (cell_numbers c) in
    let are = next_are d.free m (cell_numbers c) next in
    let words = words_in (cell_lines d.wires c) in
    let text = subst (λ (ns : List ℕ). IsCellText d.wires words c ns) are.0 (cell_text d.wires total c named is printable few) in
    subst (λ (k : ℕ). IsModuleText (ws ++ words) (filled d (d.cells ++ c ∷ []) d.connects k) (names ++ c.name ∷ [])) are.1
    (cell ws [] words d names [] c count p no_attribute text none (omega (arith, room, are.1)))
