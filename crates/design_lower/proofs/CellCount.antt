-- Each word adds one cell at most, so a text has no more cells than words.
use Rattle.std.proofs.Common.{◌≡◌, ℕ, suc, ◌+◌, ◌≤◌, Bool, true, false, cond, List, [], ◌∷◌, ◌++◌, length, Option, Some, None, Result, Ok, Err, refl, subst, ap, arith}
use Rattle.std.specs.Prelude.{nat_lt, nat_le, ◌==◌, ◌||◌, bytes_eq, codes, map, reverse, slice_get}
use Rattle.std.specs.List.{list_any}
use Rattle.std.proofs.lemmas.List.{length-append, length-map}
use Rattle.design_core.specs.Shape.{DesignOf}
use Rattle.design_core.specs.declared.names.ParameterName.{ParameterName}
use Rattle.design_core.specs.declared.names.PortName.{PortName}
use Rattle.design_signals.specs.declared.sig_bit.SigBit.{SigBit}
use Rattle.rtlil_lex.specs.Tokens.{IsToken, Lexes, TokenOf}
use Rattle.rtlil_lex.specs.Tokens.IsToken.{name as NameToken, string as StringToken, word as WordToken}
use Rattle.rtlil_lex.specs.Tokens.Lexes.{last_gap, token}
use Rattle.rtlil_lex.proofs.Stepping.{gap_short}
use Rattle.rtlil_constant.specs.Constants.{Word, number_of, unsigned, is_marker, open_digits, constant_of}
use Rattle.design_reader.specs.Parts.{AttributesOf, CellDraftOf, DraftOf, no_attributes}
use Rattle.design_reader.specs.Grammar.{Outcome, Reads, ◌⊳◌, bits, most_bits, with_free, with_cell, with_connect, with_port, new_draft, needs, plain_bit, numbered_bits, is_empty, is_ignored_target, is_form, row_at, wire_names, name_place, with_attribute, file_line, bare_line, line, wire_option, wire_width, wire_number, module_value, cell_line, cell_parameter, constant_part, signal_word, behind_signal, slice_part, slice_word, part_word, word_step, begun_parameter, begun_port, signal_name, name_behind, part_name, name_step, step, steps, reading, words_of}
use Rattle.design_reader.specs.declared.fault.ReadFaultKind.{ReadFaultKind}
use Rattle.design_reader.specs.declared.fault.ReadFaultKind.TheVariants.{Limit, Syntax, UnknownWire, LeftOut, SeveralModules}
use Rattle.design_reader.specs.declared.spot.WireOptions.{WireOptions}
use Rattle.design_reader.specs.declared.spot.NumberedOption.{NumberedOption}
use Rattle.design_reader.specs.declared.spot.NumberedOption.TheVariants.{Width, Offset, Input, Output}
use Rattle.design_reader.specs.declared.spot.Target.{Target}
use Rattle.design_reader.specs.declared.spot.Target.TheVariants.{Port as ToPort, Left, Right}
use Rattle.design_reader.specs.declared.spot.Spot.{Spot}
use Rattle.design_reader.specs.declared.spot.Spot.TheVariants.{File, AutoIdx, FileAttribute, FileValue, Module, Line, Attribute, Value, ModuleParameter, ModuleParameterValue, WireOption, WireNumber, CellType, CellName, CellLine, CellParameter, CellParameterName, CellParameterValue, Port, Signal, Part}

abbrev Row : Type 0
Row = List SigBit

count : DraftOf → ℕ
count d = length d.design.cells

-- what a word leaves has one cell more at most
Adds : ℕ → Outcome → Type 0
Adds n (Ok x) = length x.0.design.cells ≤ suc n
Adds n (Err k) = Unit {0}

ok : (n : ℕ) (d : DraftOf) (s : Spot) → length d.design.cells ≤ suc n → Adds n (Ok (d, s))
unfolding Adds
ok n d s h = h

same : (d : DraftOf) (e : DraftOf) (s : Spot) → e.design.cells ≡ d.design.cells → Adds (length d.design.cells) (Ok (e, s))
unfolding Adds
same d e s h = omega (arith, ap length h)

err : (n : ℕ) (k : ReadFaultKind) → Adds n (Err k)
unfolding Adds
err n k = tt

either : (n : ℕ) (b : Bool) (x y : Outcome) → Adds n x → Adds n y → Adds n (cond b x y)
either n true x y f g = f
either n false x y f g = g

then : {A : Type 0} (n : ℕ) (r : Result A ReadFaultKind) (f : A → Outcome) → ((x : A) → Adds n (f x)) → Adds n (r ⊳ f)
then n (Ok x) f h = h x
then n (Err k) f h = err n k

module _ (d : DraftOf) where
  abbrev N : ℕ
  N = length d.design.cells

  file_adds : (behind : Bool) (w : Word) → Adds N (file_line d behind w)
  file_adds behind w =
      either N (bytes_eq w (codes "autoidx")) _ _ (same d d (AutoIdx behind) refl)
      (either N (bytes_eq w (codes "attribute")) _ _ (same d d (FileAttribute behind) refl)
      (either N (bytes_eq w (codes "module")) _ _ (either N behind _ _ (err N SeveralModules) (same d d Module refl)) (err N Syntax)))

  bare_adds : (e : DraftOf) (w : Word) → e.design.cells ≡ d.design.cells → Adds N (bare_line e w)
  bare_adds e w h =
      either N _ _ _ (same d e ModuleParameter h)
      (either N _ _ _ (same d e (Signal Left []) h)
      (either N _ _ _ (same d e (File true) h) (err N _)))

  line_adds : (e : DraftOf) (a : AttributesOf) (w : Word) → e.design.cells ≡ d.design.cells → Adds N (line e a w)
  unfolding line
  line_adds e a w h =
      either N (bytes_eq w (codes "attribute")) _ _ (same d e (Attribute a) h)
      (either N (bytes_eq w (codes "wire")) _ _ (either N (nat_lt (bits e) most_bits) _ _ (same d e (WireOption a (record { width = None; input = false })) h) (err N Limit))
      (either N (bytes_eq w (codes "cell")) _ _ (same d e CellType h)
      (either N (bytes_eq w (codes "memory") || bytes_eq w (codes "process")) _ _ (err N LeftOut)
      (either N (bytes_eq w (codes "module")) _ _ (err N SeveralModules) (either N a.some _ _ (err N Syntax) (bare_adds e w h))))))

  option_adds : (a : AttributesOf) (o : WireOptions) (w : Word) → Adds N (wire_option d a o w)
  option_adds a o w =
      either N _ _ _ (either N _ _ _ (err N _) (same d d (WireNumber a o Width) refl))
      (either N _ _ _ (same d d (WireNumber a o Offset) refl)
      (either N _ _ _ (same d d (WireNumber a o Input) refl)
      (either N _ _ _ (same d d (WireNumber a o Output) refl)
      (either N _ _ _ (err N _) (either N _ _ _ (same d d (WireOption a o) refl) (err N _))))))

  width_adds : (a : AttributesOf) (o : WireOptions) (n : ℕ) → Adds N (wire_width d a o n)
  width_adds a o n = either N (n == 0) _ _ (err N _) (either N _ _ _ (same d d (WireOption a (record o { width = Some n })) refl) (err N _))

  number_adds : (a : AttributesOf) (o : WireOptions) (option : NumberedOption) (w : Word) → Adds N (wire_number d a o option w)
  number_adds a o Width w = then N (needs Syntax (number_of w)) _ (λ n. width_adds a o n)
  number_adds a o Offset w = then N (needs Syntax (number_of (unsigned w))) _ (λ n. same d d (WireOption a o) refl)
  number_adds a o Input w = then N (needs Syntax (number_of w)) _ (λ n. same d d (WireOption a (record o { input = true })) refl)
  number_adds a o Output w = then N (needs Syntax (number_of w)) _ (λ n. same d d (WireOption a o) refl)

  module_adds : (w : Word) (found : Option (List ℕ)) → Adds N (module_value d w found)
  module_adds w None = line_adds d no_attributes w refl
  module_adds w (Some digits) = same d d (Line no_attributes) refl

  -- a cell that ends is the one that is added
  ended : (ignored : Bool) (c : CellDraftOf) → length (cond ignored d (with_cell d c.cell)).design.cells ≤ suc N
  ended true c = omega arith
  ended false c = omega (arith, length-append d.design.cells (c.cell ∷ []))

  cell_adds : (c : CellDraftOf) (w : Word) → Adds N (cell_line d c w)
  unfolding cell_line
  cell_adds c w =
      either N _ _ _ (same d d (CellParameter c) refl)
      (either N _ _ _ (same d d (Port c) refl)
      (either N _ _ _ (ok N (cond c.ignored d (with_cell d c.cell)) (Line no_attributes) (ended c.ignored c))
      (either N (bytes_eq w (codes "module")) _ _ (err N SeveralModules) (err N Syntax))))

  parameter_adds : (c : CellDraftOf) (label : Option ParameterName) (digits : List ℕ) → Adds N (cell_parameter d c label digits)
  parameter_adds c None digits = same d d (CellLine c) refl
  parameter_adds c (Some p) digits =
      either N _ _ _ (either N _ _ _ (same d (with_free d (open_digits digits)) (CellLine _) refl) (err N _)) (same d d (CellLine _) refl)

  constant_adds : (t : Target) (rows : List Row) (digits : List ℕ) → Adds N (constant_part d t rows digits)
  constant_adds t rows digits =
      either N (is_empty digits) _ _ (err N Syntax)
      (either N (list_any is_marker digits) _ _ (err N LeftOut)
      (either N (is_ignored_target t) _ _ (same d d (Part t (map plain_bit digits ∷ rows)) refl)
      (either N (nat_le (bits d + open_digits digits) most_bits) _ _
      (same d (with_free d (open_digits digits)) (Part t (numbered_bits d.design.free digits ∷ rows)) refl) (err N Limit))))

  signal_adds : (t : Target) (rows : List Row) (w : Word) → Adds N (signal_word d t rows w)
  unfolding signal_word
  signal_adds t rows w = either N (bytes_eq w (codes "{")) _ _ (same d d (Signal t ([] ∷ rows)) refl) (then N (needs Syntax (constant_of 1 w)) _ (λ digits. constant_adds t rows digits))

  behind_adds : (t : Target) (row : Row) (w : Word) → Adds N (behind_signal d t row w)
  behind_adds (ToPort c name) row w = cell_adds (with_port c name row) w
  behind_adds Left row w = signal_adds (Right (reverse row)) [] w
  behind_adds (Right left) row w = line_adds (with_connect d left row) no_attributes w refl

  slice_adds : (t : Target) (row : Row) (rows : List Row) (w : Word) → Adds N (slice_part d t row rows w)
  slice_adds t row rows w = then N (slice_word row w) _ (λ part. same d d (Part t (part ∷ rows)) refl)

  part_adds : (t : Target) (rows : List Row) (w : Word) → Adds N (part_word d t rows w)
  unfolding part_word
  part_adds t [] w = err N _
  part_adds t (row ∷ []) w = either N _ _ _ (slice_adds t row [] w) (behind_adds t row w)
  part_adds t (row ∷ above ∷ rows) w =
      either N _ _ _ (slice_adds t row (above ∷ rows) w)
      (either N _ _ _ (same d d (Part t ((above ++ row) ∷ rows)) refl) (signal_adds t ((above ++ row) ∷ rows) w))

  word_adds : (s : Spot) (w : Word) → Adds N (word_step d s w)
  unfolding word_step
  word_adds (File behind) w = file_adds behind w
  word_adds (AutoIdx behind) w = then N (needs Syntax (number_of w)) _ (λ n. same d d (File behind) refl)
  word_adds (FileAttribute behind) w = err N _
  word_adds (FileValue behind) w = then N (needs Syntax (constant_of 0 w)) _ (λ digits. same d d (File behind) refl)
  word_adds Module w = err N _
  word_adds (Line a) w = line_adds d a w refl
  word_adds (Attribute a) w = err N _
  word_adds (Value a is_init) w = then N (needs Syntax (constant_of 0 w)) _ (λ digits. same d d (Line (with_attribute a is_init digits)) refl)
  word_adds ModuleParameter w = err N _
  word_adds ModuleParameterValue w = module_adds w (constant_of 1 w)
  word_adds (WireOption a o) w = option_adds a o w
  word_adds (WireNumber a o option) w = number_adds a o option w
  word_adds CellType w = err N _
  word_adds (CellName kind ignored) w = err N _
  word_adds (CellLine c) w = cell_adds c w
  word_adds (CellParameter c) w = either N (is_form w) _ _ (same d d (CellParameterName c) refl) (err N _)
  word_adds (CellParameterName c) w = err N _
  word_adds (CellParameterValue c name) w = then N (needs Syntax (constant_of 1 w)) _ (λ digits. parameter_adds c name digits)
  word_adds (Port c) w = err N _
  word_adds (Signal t rows) w = signal_adds t rows w
  word_adds (Part t rows) w = part_adds t rows w

  signal_name_adds : (t : Target) (rows : List Row) (name : Word) → Adds N (signal_name d t rows name)
  unfolding signal_name
  signal_name_adds t rows name = then N (needs UnknownWire (name_place (wire_names d.design.wires) name)) _ (λ i. same d d (Part t (row_at i (slice_get d.design.wires i) ∷ rows)) refl)

  name_behind_adds : (t : Target) (row : Row) (name : Word) → Adds N (name_behind d t row name)
  name_behind_adds (ToPort c port) row name = err N _
  name_behind_adds Left row name = signal_name_adds (Right (reverse row)) [] name
  name_behind_adds (Right left) row name = err N _

  part_name_adds : (t : Target) (rows : List Row) (name : Word) → Adds N (part_name d t rows name)
  unfolding part_name
  part_name_adds t [] name = err N _
  part_name_adds t (row ∷ []) name = name_behind_adds t row name
  part_name_adds t (row ∷ above ∷ rows) name = signal_name_adds t ((above ++ row) ∷ rows) name

  begun_parameter_adds : (c : CellDraftOf) (name : Word) (label : Option ParameterName) → Adds N (begun_parameter d c name label)
  begun_parameter_adds c name label = either N _ _ _ (err N _) (same d d (CellParameterValue _ _) refl)

  begun_port_adds : (c : CellDraftOf) (name : Word) (label : Option PortName) → Adds N (begun_port d c name label)
  begun_port_adds c name label = either N _ _ _ (err N _) (same d d (Signal _ []) refl)

  name_adds : (s : Spot) (name : Word) → Adds N (name_step d s name)
  unfolding name_step
  name_adds (File behind) name = err N _
  name_adds (AutoIdx behind) name = err N _
  name_adds (FileAttribute behind) name = same d d (FileValue behind) refl
  name_adds (FileValue behind) name = err N _
  name_adds Module name = ok N (new_draft name) (Line no_attributes) (omega arith)
  name_adds (Line a) name = err N _
  name_adds (Attribute a) name = same d d (Value a _) refl
  name_adds (Value a is_init) name = err N _
  name_adds ModuleParameter name = same d d ModuleParameterValue refl
  name_adds ModuleParameterValue name = err N _
  name_adds (WireOption a o) name = either N _ _ _ (err N _) (ok N _ (Line no_attributes) (omega arith))
  name_adds (WireNumber a o option) name = err N _
  name_adds CellType name = same d d (CellName _ _) refl
  name_adds (CellName kind ignored) name = either N _ _ _ (err N _) (ok N _ (CellLine _) (omega arith))
  name_adds (CellLine c) name = err N _
  name_adds (CellParameter c) name = begun_parameter_adds c _ _
  name_adds (CellParameterName c) name = begun_parameter_adds c _ _
  name_adds (CellParameterValue c label) name = err N _
  name_adds (Port c) name = begun_port_adds c _ _
  name_adds (Signal t rows) name = signal_name_adds t rows name
  name_adds (Part t rows) name = part_name_adds t rows name

step_adds : (d : DraftOf) (s : Spot) (w : Word) → Adds (length d.design.cells) (step d s w)
step_adds d s w = either _ _ _ _ (either _ _ _ _ (name_adds d s w) (err _ _)) (word_adds d s w)

-- ---- texts

AddsAll : ℕ → Outcome → Type 0
AddsAll n (Ok x) = length x.0.design.cells ≤ n
AddsAll n (Err k) = Unit {0}

all_err : (n : ℕ) (k : ReadFaultKind) → AddsAll n (Err k)
unfolding AddsAll
all_err n k = tt

more : (n m : ℕ) (r : Outcome) (f : DraftOf × Spot → Outcome) → Adds n r → ((x : DraftOf × Spot) → length x.0.design.cells ≤ suc n → AddsAll m (f x)) → AddsAll m (r ⊳ f)
unfolding Adds
more n m (Ok x) f h g = g x h
more n m (Err k) f h g = all_err m k

steps_add : (ws : List Word) (d : DraftOf) (s : Spot) (m : ℕ) → length d.design.cells + length ws ≤ m → AddsAll m (steps d s ws)
unfolding AddsAll
steps_add [] d s m h = omega (arith, h)
steps_add (w ∷ ws) d s m h =
    more (length d.design.cells) m (step d s w) (λ x. steps x.0 x.1 ws) (step_adds d s w) (λ x g. steps_add ws x.0 x.1 m (omega (arith, g, h)))

cells_of : (m : ℕ) (r : Outcome) (d : DraftOf) (s : Spot) → r ≡ Ok (d, s) → AddsAll m r → length d.design.cells ≤ m
unfolding AddsAll
cells_of m r d s e h = subst (AddsAll m) e h

-- ---- each token has a byte

token_short : (text rest : List ℕ) → IsToken text rest → length rest + 1 ≤ length (text ++ rest)
token_short text rest (NameToken b run after h r) = omega (arith, length-append run rest)
token_short text rest (StringToken b run after h q e) = omega (arith, length-append run rest)
token_short text rest (WordToken b run after h r) = omega (arith, length-append run rest)

few_tokens : (n : ℕ) (bytes : List ℕ) (ts : List TokenOf) → Lexes n bytes ts → length ts ≤ length bytes
few_tokens n bytes ts (last_gap all g) = omega arith
few_tokens n bytes ts (token t us all rest g p e l) =
    let whole : length (t.text ++ rest) + 0 ≤ length bytes = gap_short bytes (t.text ++ rest) 0 (omega arith) g in
    omega (arith, whole, token_short t.text rest p, few_tokens n rest us l)

pub few_cells : (text : List ℕ) (d : DesignOf) → Reads text d → length d.cells ≤ length text
few_cells text d r =
    let all : AddsAll (length r.tokens) (reading r.tokens) = steps_add (words_of r.tokens) (new_draft []) (File false) (length r.tokens) (omega (arith, length-map r.tokens (λ (t : TokenOf). t.text))) in
    let most : length d.cells ≤ length r.tokens = cells_of (length r.tokens) (reading r.tokens) _ _ r.whole all in
    omega (arith, most, few_tokens (length text) text r.tokens r.lexes)
