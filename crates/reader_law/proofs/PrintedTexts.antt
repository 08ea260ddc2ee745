-- The printed form of a design has the design's words as its tokens.
use Rattle.std.proofs.Common.{◌≡◌, ℕ, ◌+◌, ◌-◌, ◌<◌, ◌≤◌, ◌^◌, Bool, true, false, List, [], ◌∷◌, ◌++◌, map, length, Option, Some, None, refl, sym, ap, subst, append_assoc, arith}
use Rattle.std.specs.Prelude.{codes, decimal, cond, ◌==◌, filter, flat_map, reverse, All}
use Rattle.std.specs.List.{AllByRecursion, list_all, join_with_byte, sum_by}
use Rattle.std.proofs.lemmas.List.{length-append, length-map, length-reverse}
use Rattle.std.proofs.lemmas.List.Elements.{All-head, All-tail, recursion_from_All}
use Rattle.std.proofs.lemmas.List.Sums.{sum_by-cons}
use Rattle.rtlil_lex.specs.Tokens.{is_space, TokenOf, IsTokens, Lexes, Gap}
use Rattle.rtlil_lex.specs.Tokens.Gap.{no_more, space, comment}
use Rattle.rtlil_lex.specs.Tokens.Lexes.{last_gap, token}
use Rattle.rtlil_constant.specs.Constants.{Word, is_digit}
use Rattle.design_core.specs.Names.{parameter_text, port_text}
use Rattle.design_core.specs.Shape.{WireOf, CellOf, ConnectOf, DesignOf, IsDeclared, IsWire, IsCellOf, IsConnectOf}
use Rattle.design_core.specs.declared.parts.Parameter.{Parameter}
use Rattle.design_core.specs.declared.parts.Port.{Port}
use Rattle.design_signals.specs.declared.sig_bit.SigBit.{SigBit}
use Rattle.design_signals.specs.declared.sig_bit.SigBit.TheVariants.{Wire, Const, Free}
use Rattle.design_reader.specs.Grammar.{most_bits, words_of, Reads}
use Rattle.reader_law.specs.FileTexts.{IsFileText}
use Rattle.reader_law.specs.Printed.{Line, constant_word, name_in, bit_words, signal_words, start_character, init_line, input_words, wire_line, wire_lines, kind_text, digit_character, parameter_line, port_line, identifier, foreign_line, cell_lines, connect_line, connects_after, items_after, design_lines, design_words, printed, IsIdentifier, IsForeign, IsPrintableCell, IsPrintable}
use Rattle.design_reader.proofs.Declared.{reverse_all}
use Rattle.reader_law.proofs.PrintedWords.{IsShown, shown_constant, shown_decimal, shown_index, shown_name, shown_word}
use Rattle.reader_law.proofs.Steps.{AreNamed, all_join, all_parts}
use Rattle.reader_law.proofs.FileSteps.{file_read}
use Rattle.reader_law.proofs.CellWords.{HasShort, IsShort, digits_fine, identifier_by, kind_identifier, parameter_identifier, port_identifier, words_in}
use Rattle.reader_law.proofs.PrintedDesigns.{named_wires, printed_file}

-- a gap before the text of tokens
gap_then : (b c a : List ℕ) → Gap b a → Gap c b → Gap c a
gap_then b c a no_more h = h
gap_then b c a (space x more s g) h = space x more s (gap_then b c more g h)
gap_then b c a (comment x more text left s e r g) h = comment x more text left s e r (gap_then b c left g h)

gap_lexes : (n : ℕ) (a b : List ℕ) (ts : List TokenOf) → Gap b a → Lexes n b ts → Lexes n a ts
gap_lexes n a b ts g (last_gap all h) = last_gap a (gap_then b [] a g h)
gap_lexes n a b ts g (token t others all rest h p e l) = token t others a rest (gap_then b (t.text ++ rest) a g h) p e l

-- a line with a word
IsShownLine : Line → Type 0
IsShownLine [] = ⊥
IsShownLine (w ∷ ws) = IsShown w × AllByRecursion IsShown ws

abbrev line_text : Line → List ℕ
line_text l = join_with_byte 32 l

abbrev lines_text : List Line → List ℕ
lines_text lines = flat_map (λ l. line_text l ++ 10 ∷ []) lines

-- bytes at the end of a text whose tokens are these words
pub record Lexed (n : ℕ) (bytes : List ℕ) (ws : List Word) : Type 0 where
  pub tokens : List TokenOf
  pub words : words_of tokens ≡ ws
  pub lexes : Lexes n bytes tokens

-- one word, and white space after it
word_lexed : (n b : ℕ) (w : Word) (rest : List ℕ) (ws : List Word) → IsShown w → is_space b ≡ true → length (w ++ b ∷ rest) ≤ n → Lexed n rest ws → Lexed n (w ++ b ∷ rest) (w ∷ ws)
word_lexed n b w rest ws s h few l =
    let t : TokenOf = record { start = n - length (w ++ b ∷ rest); text = w } in
    let gap : Gap rest (b ∷ rest) = space b rest h no_more in
    record {
      tokens = t ∷ l.tokens;
      words = ap (λ (x : List Word). w ∷ x) l.words;
      lexes = token t l.tokens (w ++ b ∷ rest) (b ∷ rest) no_more (s.token b rest h) (omega arith) (gap_lexes n (b ∷ rest) rest l.tokens gap l.lexes);
    }

line_lexed : (n : ℕ) (w : Word) (ws : Line) (rest : List ℕ) (more : List Word) → IsShown w → AllByRecursion IsShown ws → length (line_text (w ∷ ws) ++ 10 ∷ rest) ≤ n → Lexed n rest more
    → Lexed n (line_text (w ∷ ws) ++ 10 ∷ rest) ((w ∷ ws) ++ more)
line_lexed n w [] rest more s t few l = word_lexed n 10 w rest more s refl few l
line_lexed n w (v ∷ ws) rest more s t few l =
    let tail = line_text (v ∷ ws) ++ 10 ∷ rest in
    let apart : line_text (w ∷ v ∷ ws) ++ 10 ∷ rest ≡ w ++ 32 ∷ tail = append_assoc w (32 ∷ line_text (v ∷ ws)) (10 ∷ rest) in
    let long = length-append w (32 ∷ tail) in
    let same = ap (λ (x : List ℕ). length x) apart in
    let inner = line_lexed n v ws rest more t.0 t.1 (omega (arith, few, same, long)) l in
    subst (λ (x : List ℕ). Lexed n x (w ∷ v ∷ ws ++ more)) (sym apart) (word_lexed n 32 w tail ((v ∷ ws) ++ more) s refl (omega (arith, few, same)) inner)

lines_lexed : (n : ℕ) (lines : List Line) → AllByRecursion IsShownLine lines → length (lines_text lines) ≤ n → Lexed n (lines_text lines) (words_in lines)
unfolding IsShownLine
lines_lexed n [] s few = record { tokens = []; words = refl; lexes = last_gap [] no_more }
lines_lexed n ([] ∷ lines) s few = absurd s.0
lines_lexed n ((w ∷ ws) ∷ lines) s few =
    let rest = lines_text lines in
    let apart : lines_text ((w ∷ ws) ∷ lines) ≡ line_text (w ∷ ws) ++ 10 ∷ rest = append_assoc (line_text (w ∷ ws)) (10 ∷ []) rest in
    let same = ap (λ (x : List ℕ). length x) apart in
    let long = length-append (line_text (w ∷ ws)) (10 ∷ rest) in
    let inner = lines_lexed n lines s.1 (omega (arith, few, same, long)) in
    subst (λ (x : List ℕ). Lexed n x ((w ∷ ws) ++ words_in lines)) (sym apart) (line_lexed n w ws rest (words_in lines) s.0.0 s.0.1 (omega (arith, few, same)) inner)

-- ---- each word is a token

all_map : {X Y : Type 0} (P : X → Type 0) (Q : Y → Type 0) (f : X → Y) (xs : List X) → ((x : X) → P x → Q (f x)) → AllByRecursion P xs → AllByRecursion Q (map f xs)
all_map P Q f [] g h = tt
all_map P Q f (x ∷ xs) g h = (g x h.0, all_map P Q f xs g h.1)

all_flat : {X Y : Type 0} (P : X → Type 0) (Q : Y → Type 0) (f : X → List Y) (xs : List X) → ((x : X) → P x → AllByRecursion Q (f x)) → AllByRecursion P xs → AllByRecursion Q (flat_map f xs)
all_flat P Q f [] g h = tt
all_flat P Q f (x ∷ xs) g h = all_join Q (f x) (flat_map f xs) (g x h.0) (all_flat P Q f xs g h.1)

all_filter : {X : Type 0} (P : X → Type 0) (t : X → Bool) (xs : List X) → AllByRecursion P xs → AllByRecursion P (filter t xs)
all_filter P t [] h = tt
all_filter P t (x ∷ xs) h =
    elim (t x) as (λ (v : Bool). AllByRecursion P (cond v (x ∷ filter t xs) (filter t xs))) [
      | true ↦ (h.0, all_filter P t xs h.1)
      | false ↦ all_filter P t xs h.1
    ]

start_fine : (row : List (Option Bool)) → list_all is_digit (map start_character row) ≡ true
start_fine [] = refl
start_fine (None ∷ row) = start_fine row
start_fine (Some true ∷ row) = start_fine row
start_fine (Some false ∷ row) = start_fine row

init_shown : (start : List (Option Bool)) → length start ≤ most_bits → IsShownLine (init_line start)
unfolding IsShownLine
init_shown start few =
    let digits = map start_character (reverse start) in
    let short : length digits < 2 ^ 64 = omega (arith, few, length-map (reverse start) start_character, length-reverse start) in
    (shown_word (codes "attribute") refl, (shown_name (codes "\\init") (identifier_by (codes "\\init") refl), (shown_constant digits short (start_fine (reverse start)), tt)))

input_shown : (input : Bool) → AllByRecursion IsShown (input_words input)
input_shown true = (shown_word (codes "input") refl, (shown_word (codes "1") refl, tt))
input_shown false = tt

wire_shown : (w : WireOf) → w.width ≤ most_bits → IsWire w → IsIdentifier w.name → AllByRecursion IsShownLine (wire_lines w)
unfolding IsShownLine
wire_shown w few is name =
    let short = recursion_from_All (λ (s : List (Option Bool)). length s ≤ w.width) w.inits is.1 in
    let last : IsShownLine (wire_line w) =
    (shown_word (codes "wire") refl, (shown_word (codes "width") refl, (shown_decimal w.width (omega (arith, few)), all_join IsShown (input_words w.input) (w.name ∷ []) (input_shown w.input) (shown_name w.name name, tt)))) in
    all_join IsShownLine (map init_line w.inits) (wire_line w ∷ [])
    (all_map (λ (s : List (Option Bool)). length s ≤ w.width) IsShownLine init_line w.inits (λ s h. init_shown s (omega (arith, few, h))) short)
    (last, tt)

bit_shown : (wires : List WireOf) (total : ℕ) (b : SigBit) → AreNamed wires → IsDeclared wires total b → AllByRecursion IsShown (bit_words wires b)
bit_shown wires total (Wire w b) n (x, at, lt) =
    (subst (λ (o : Option WireOf). IsShown (name_in o)) (sym at) (shown_name x.name (n.names w x at)), (shown_index b (omega (arith, n.widths w x at)), tt))
bit_shown wires total (Const true) n h = (shown_constant (49 ∷ []) (omega arith) refl, tt)
bit_shown wires total (Const false) n h = (shown_constant (48 ∷ []) (omega arith) refl, tt)
bit_shown wires total (Free k) n h = (shown_constant (120 ∷ []) (omega arith) refl, tt)

signal_shown : (wires : List WireOf) (total : ℕ) (signal : List SigBit) → AreNamed wires → All (IsDeclared wires total) signal → AllByRecursion IsShown (signal_words wires signal)
signal_shown wires total signal n h =
    let declared = recursion_from_All (IsDeclared wires total) (reverse signal) (reverse_all (IsDeclared wires total) signal h) in (
      shown_word (codes "{") refl,
      all_join IsShown (flat_map (bit_words wires) (reverse signal)) (codes "}" ∷ [])
          (all_flat (IsDeclared wires total) IsShown (bit_words wires) (reverse signal) (λ b k. bit_shown wires total b n k) declared)
          (shown_word (codes "}") refl, tt),
    )

parameter_shown : (p : Parameter) → IsShort p → IsShownLine (parameter_line p)
unfolding IsShownLine
parameter_shown p h =
    let digits = map digit_character (reverse p.digits) in
    let short : length digits < 2 ^ 64 = omega (arith, h, length-map (reverse p.digits) digit_character, length-reverse p.digits) in
    let name = identifier_by (92 ∷ parameter_text p.name) (parameter_identifier p.name).0 in
    (shown_word (codes "parameter") refl, (shown_name (92 ∷ parameter_text p.name) name, (shown_constant digits short (digits_fine (reverse p.digits)), tt)))

port_shown : (wires : List WireOf) (total : ℕ) (p : Port) → AreNamed wires → All (IsDeclared wires total) p.signal → IsShownLine (port_line wires p)
unfolding IsShownLine
port_shown wires total p n h =
    let name = identifier_by (92 ∷ port_text p.name) (port_identifier p.name).0 in
    (shown_word (codes "connect") refl, (shown_name (92 ∷ port_text p.name) name, signal_shown wires total p.signal n h))

foreign_shown : (name : Word) → IsForeign name → IsShownLine (foreign_line name)
unfolding IsShownLine
foreign_shown name f = (shown_word (codes "connect") refl, (shown_name (identifier name) f.word, (shown_constant (codes "0") (omega arith) refl, tt)))

end_shown : AllByRecursion IsShownLine ((codes "end" ∷ []) ∷ [])
unfolding IsShownLine
end_shown = ((shown_word (codes "end") refl, tt), tt)

cell_shown : (wires : List WireOf) (total : ℕ) (c : CellOf) → AreNamed wires → IsCellOf wires total c → IsPrintableCell c → HasShort c → AllByRecursion IsShownLine (cell_lines wires c)
unfolding IsShownLine
cell_shown wires total c n is p few =
    let ports = recursion_from_All (λ (q : Port). All (IsDeclared wires total) q.signal) c.ports is.ports in
    let foreign = recursion_from_All IsForeign c.foreign p.foreign in (
      (shown_word (codes "cell") refl, (shown_name (kind_text c.kind) (kind_identifier c.kind), (shown_name c.name p.name, tt))),
      all_join IsShownLine (map parameter_line c.parameters) _ (all_map IsShort IsShownLine parameter_line c.parameters (λ q h. parameter_shown q h) few)
          (all_join IsShownLine (map (port_line wires) c.ports) _ (all_map (λ (q : Port). All (IsDeclared wires total) q.signal) IsShownLine (port_line wires) c.ports (λ q h. port_shown wires total q n h) ports)
          (all_join IsShownLine (map foreign_line c.foreign) _ (all_map IsForeign IsShownLine foreign_line c.foreign (λ q h. foreign_shown q h) foreign) end_shown)),
    )

connect_shown : (wires : List WireOf) (total : ℕ) (j : ConnectOf) → AreNamed wires → IsConnectOf wires total j → AllByRecursion IsShownLine (connect_line wires j ∷ [])
unfolding IsShownLine
connect_shown wires total j n h =
    ((shown_word (codes "connect") refl, all_join IsShown (signal_words wires j.left) (signal_words wires j.right) (signal_shown wires total j.left n h.0) (signal_shown wires total j.right n h.1)), tt)

items_shown : (wires : List WireOf) (total n : ℕ) (cells : List CellOf) (connects : List ConnectOf) → AreNamed wires → AllByRecursion (IsCellOf wires total) cells → AllByRecursion IsPrintableCell cells → AllByRecursion HasShort cells
    → AllByRecursion (IsConnectOf wires total) connects → AllByRecursion IsShownLine (items_after (cell_lines wires) (λ j. connect_line wires j ∷ []) n cells connects)
items_shown wires total n [] connects named is p few c =
    all_flat (IsConnectOf wires total) IsShownLine (λ j. connect_line wires j ∷ []) (connects_after n connects) (λ j h. connect_shown wires total j named h) (all_filter (IsConnectOf wires total) (λ j. j.cells_before == n) connects c)
items_shown wires total n (x ∷ cells) connects named is p few c =
    let front = all_flat (IsConnectOf wires total) IsShownLine (λ j. connect_line wires j ∷ []) (connects_after n connects) (λ j h. connect_shown wires total j named h) (all_filter (IsConnectOf wires total) (λ j. j.cells_before == n) connects c) in
    all_join IsShownLine _ _ front (all_join IsShownLine (cell_lines wires x) _ (cell_shown wires total x named is.0 p.0 few.0) (items_shown wires total (n + 1) cells connects named is.1 p.1 few.1 c))

wires_shown : (ws : List WireOf) → sum_by (λ w. w.width) ws ≤ most_bits → All IsWire ws → All (λ w. IsIdentifier w.name) ws → AllByRecursion IsShownLine (flat_map wire_lines ws)
wires_shown [] few h k = tt
wires_shown (w ∷ ws) few h k =
    let name = λ (x : WireOf). IsIdentifier x.name in
    let sums = sum_by-cons (λ (x : WireOf). x.width) w ws in
    all_join IsShownLine (wire_lines w) (flat_map wire_lines ws) (wire_shown w (omega (arith, few, sums)) (All-head IsWire w ws h) (All-head name w ws k))
    (wires_shown ws (omega (arith, few, sums)) (All-tail IsWire w ws h) (All-tail name w ws k))

design_shown : (d : DesignOf) → IsPrintable d → AllByRecursion HasShort d.cells → AllByRecursion IsShownLine (design_lines d)
unfolding IsShownLine
design_shown d p few =
    let named = named_wires d p in
    let wires = wires_shown d.wires (omega (arith, p.few_bits)) p.design.wires p.wires in
    let items = items_shown d.wires d.free 0 d.cells d.connects named (recursion_from_All (IsCellOf d.wires d.free) d.cells p.design.cells) (recursion_from_All IsPrintableCell d.cells p.cells) few (recursion_from_All (IsConnectOf d.wires d.free) d.connects p.design.connects) in
    ((shown_word (codes "module") refl, (shown_name d.name p.name, tt)), all_join IsShownLine (flat_map wire_lines d.wires) _ wires (all_join IsShownLine _ ((codes "end" ∷ []) ∷ []) items end_shown))

-- ---- no word is longer than the text

abbrev Fits : ℕ → Word → Type 0
Fits n w = length w ≤ n

tokens_fit : (n : ℕ) (bytes : List ℕ) (ts : List TokenOf) → Lexes n bytes ts → AllByRecursion (Fits n) (words_of ts)
tokens_fit n bytes ts (last_gap all g) = tt
tokens_fit n bytes ts (token t others all rest g p e l) = (omega (arith, e, length-append t.text rest), tokens_fit n rest others l)

line_fits : (n : ℕ) (w : Word) (ws : Line) → length (line_text (w ∷ ws)) ≤ n → AllByRecursion (Fits n) (w ∷ ws)
line_fits n w [] h = (h, tt)
line_fits n w (v ∷ ws) h =
    let long = length-append w (32 ∷ line_text (v ∷ ws)) in
    (omega (arith, h, long), line_fits n v ws (omega (arith, h, long)))

lines_fit : (n : ℕ) (lines : List Line) → length (lines_text lines) ≤ n → AllByRecursion (λ l. AllByRecursion (Fits n) l) lines
lines_fit n [] h = tt
lines_fit n ([] ∷ lines) h = (tt, lines_fit n lines (omega (arith, h, length-append (10 ∷ []) (lines_text lines))))
lines_fit n ((w ∷ ws) ∷ lines) h =
    let text = line_text (w ∷ ws) in
    let a = length-append (text ++ 10 ∷ []) (lines_text lines) in
    let b = length-append text (10 ∷ []) in
    (line_fits n w ws (omega (arith, h, a, b)), lines_fit n lines (omega (arith, h, a)))

by_lines : (n : ℕ) (lines : List Line) → AllByRecursion (Fits n) (words_in lines) → AllByRecursion (λ l. AllByRecursion (Fits n) l) lines
by_lines n [] h = tt
by_lines n (l ∷ lines) h = let r = all_parts (Fits n) l (words_in lines) h in (r.0, by_lines n lines r.1)

constant_long : (digits : List ℕ) → length digits ≤ length (constant_word digits)
constant_long [] = omega arith
constant_long (c ∷ digits) = omega (arith, length-append (decimal (length (c ∷ digits))) (39 ∷ c ∷ digits))

abbrev LineFits : Line → Type 0
LineFits l = AllByRecursion (Fits (2 ^ 26)) l

parameter_short : (p : Parameter) → LineFits (parameter_line p) → IsShort p
parameter_short p (a, (b, (c, d))) =
    let digits = map digit_character (reverse p.digits) in
    omega (arith, c, constant_long digits, length-map (reverse p.digits) digit_character, length-reverse p.digits)

parameters_short : (ps : List Parameter) → AllByRecursion LineFits (map parameter_line ps) → AllByRecursion IsShort ps
parameters_short [] h = tt
parameters_short (p ∷ ps) h = (parameter_short p h.0, parameters_short ps h.1)

items_short : (wires : List WireOf) (n : ℕ) (cells : List CellOf) (connects : List ConnectOf) → AllByRecursion LineFits (items_after (cell_lines wires) (λ j. connect_line wires j ∷ []) n cells connects)
    → AllByRecursion HasShort cells
items_short wires n [] connects h = tt
items_short wires n (c ∷ cells) connects h =
    let a = all_parts LineFits (flat_map (λ j. connect_line wires j ∷ []) (connects_after n connects)) _ h in
    let b = all_parts LineFits (cell_lines wires c) _ a.1 in
    let d = all_parts LineFits (map parameter_line c.parameters) _ b.0.1 in
    (parameters_short c.parameters d.0, items_short wires (n + 1) cells connects b.1)

design_short : (d : DesignOf) → AllByRecursion LineFits (design_lines d) → AllByRecursion HasShort d.cells
design_short d h =
    let a = all_parts LineFits (flat_map wire_lines d.wires) _ h.1 in
    let b = all_parts LineFits (items_after (cell_lines d.wires) (λ j. connect_line d.wires j ∷ []) 0 d.cells d.connects) _ a.1 in
    items_short d.wires 0 d.cells d.connects b.0

more_fit : (n m : ℕ) (ws : List Word) → n ≤ m → AllByRecursion (Fits n) ws → AllByRecursion (Fits m) ws
more_fit n m [] h k = tt
more_fit n m (w ∷ ws) h k = (omega (arith, k.0), more_fit n m ws h k.1)

-- ---- whole texts

pub words_read : (d : DesignOf) (text : List ℕ) (ts : List TokenOf) → IsPrintable d → length text ≤ 2 ^ 26 → IsTokens text ts → words_of ts ≡ design_words d → Reads text d
words_read d text ts p few lexes same =
    let fit : AllByRecursion (Fits (2 ^ 26)) (words_of ts) = more_fit (length text) (2 ^ 26) (words_of ts) few (tokens_fit (length text) text ts lexes) in
    let short = design_short d (by_lines (2 ^ 26) (design_lines d) (subst (λ (x : List Word). AllByRecursion (Fits (2 ^ 26)) x) same fit)) in
    file_read text ts (design_words d) d (printed_file d p short) few lexes same

pub printed_text : (d : DesignOf) → IsPrintable d → length (printed d) ≤ 2 ^ 26 → IsFileText (design_words d) d
printed_text d p few = printed_file d p (design_short d (lines_fit (2 ^ 26) (design_lines d) few))

pub printed_read : (d : DesignOf) → IsPrintable d → length (printed d) ≤ 2 ^ 26 → Reads (printed d) d
printed_read d p few =
    let short = design_short d (lines_fit (2 ^ 26) (design_lines d) few) in
    let l = lines_lexed (length (printed d)) (design_lines d) (design_shown d p short) (omega arith) in
    words_read d (printed d) l.tokens p few l.lexes l.words
