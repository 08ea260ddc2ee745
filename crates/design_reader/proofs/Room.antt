-- What the words keep: room for the bits, and a signal before what stands after one.
use Rattle.std.proofs.Common.{◌≡◌, ℕ, ◌+◌, ◌<◌, ◌≤◌, Bool, true, false, cond, List, [], ◌∷◌, ◌++◌, length, Option, Some, None, Result, Ok, Err, refl, subst, arith}
use Rattle.std.specs.Prelude.{nat_lt, nat_le, ◌==◌, ◌||◌, bytes_eq, codes, map, reverse, slice_get}
use Rattle.std.specs.List.{list_any, sum_by}
use Rattle.std.proofs.lemmas.List.Sums.{sum_by-append}
use Rattle.std.proofs.lemmas.Bool.Decides.{nat_tests}
use Rattle.design_core.specs.Shape.{WireOf}
use Rattle.cell_table.specs.declared.kind.Kind.{Kind}
use Rattle.design_core.specs.declared.names.ParameterName.{ParameterName}
use Rattle.design_core.specs.declared.names.PortName.{PortName}
use Rattle.design_signals.specs.declared.sig_bit.SigBit.{SigBit}
use Rattle.rtlil_lex.specs.Tokens.{TokenOf}
use Rattle.rtlil_constant.specs.Constants.{Word, number_of, unsigned, is_marker, open_digits, constant_of}
use Rattle.design_reader.specs.Parts.{AttributesOf, CellDraftOf, DraftOf, no_attributes}
use Rattle.design_reader.specs.Drafts.{HasRoom}
use Rattle.design_reader.specs.Grammar.{Outcome, ◌⊳◌, bits, most_bits, with_free, with_wire, with_cell, with_connect, with_port, new_draft, new_wire, needs, plain_bit, numbered_bits, is_empty, is_ignored_target, is_form, row_at, wire_names, name_place, with_attribute, file_line, bare_line, line, wire_option, wire_width, wire_number, module_value, cell_line, cell_parameter, constant_part, signal_word, behind_signal, slice_part, slice_word, part_word, word_step, wire_name, cell_name, begun_parameter, begun_port, signal_name, name_behind, part_name, name_step, step, steps, reading, words_of}
use Rattle.design_reader.specs.declared.fault.ReadFaultKind.{ReadFaultKind}
use Rattle.design_reader.specs.declared.fault.ReadFaultKind.TheVariants.{Limit, Syntax, UnknownWire, LeftOut, SeveralModules}
use Rattle.design_reader.specs.declared.spot.WireOptions.{WireOptions}
use Rattle.design_reader.specs.declared.spot.NumberedOption.{NumberedOption}
use Rattle.design_reader.specs.declared.spot.NumberedOption.TheVariants.{Width, Offset, Input, Output}
use Rattle.design_reader.specs.declared.spot.Target.{Target}
use Rattle.design_reader.specs.declared.spot.Target.TheVariants.{Port as ToPort, Left, Right}
use Rattle.design_reader.specs.declared.spot.Spot.{Spot}
use Rattle.design_reader.specs.declared.spot.Spot.TheVariants.{File, AutoIdx, FileAttribute, FileValue, Module, Line, Attribute, Value, ModuleParameter, ModuleParameterValue, WireOption, WireNumber, CellType, CellName, CellLine, CellParameter, CellParameterName, CellParameterValue, Port, Signal, Part}

abbrev Row : Type 0
Row = List SigBit

abbrev HasBits : DraftOf → Type 0
HasBits d = bits d ≤ most_bits

-- what a spot keeps besides
abbrev pub KeptAt : DraftOf → Spot → Type 0
KeptAt d (WireOption a o) = HasRoom d o
KeptAt d (WireNumber a o option) = HasRoom d o
KeptAt d (Part t rows) = 0 < length rows
KeptAt d _ = Unit {0}

pub record Kept (d : DraftOf) (s : Spot) : Type 0 where
  pub bits : bits d ≤ most_bits
  pub at : KeptAt d s

-- a word that is read keeps it
Keeps : Outcome → Type 0
Keeps (Ok x) = Kept x.0 x.1
Keeps (Err k) = Unit {0}

keeps_ok : (d : DraftOf) (s : Spot) → HasBits d → KeptAt d s → Keeps (Ok (d, s))
unfolding Keeps
keeps_ok d s h k = record { bits = h; at = k }

keeps_err : (k : ReadFaultKind) → Keeps (Err k)
unfolding Keeps
keeps_err k = tt

keeps_if : (b : Bool) (x y : Outcome) → (b ≡ true → Keeps x) → (b ≡ false → Keeps y) → Keeps (cond b x y)
keeps_if true x y f g = f refl
keeps_if false x y f g = g refl

keeps_cond : (b : Bool) (x y : Outcome) → Keeps x → Keeps y → Keeps (cond b x y)
keeps_cond true x y f g = f
keeps_cond false x y f g = g

keeps_then : {A : Type 0} (r : Result A ReadFaultKind) (f : A → Outcome) → ((x : A) → Keeps (f x)) → Keeps (r ⊳ f)
keeps_then (Ok x) f h = h x
keeps_then (Err k) f h = keeps_err k

keeps_on : (r : Outcome) (f : DraftOf × Spot → Outcome) → Keeps r → ((x : DraftOf × Spot) → Kept x.0 x.1 → Keeps (f x)) → Keeps (r ⊳ f)
unfolding Keeps
keeps_on (Ok x) f h g = g x h
keeps_on (Err k) f h g = keeps_err k

-- ---- words

file_keeps : (d : DraftOf) (behind : Bool) (w : Word) → HasBits d → Keeps (file_line d behind w)
file_keeps d behind w h =
    keeps_cond (bytes_eq w (codes "autoidx")) _ _ (keeps_ok d (AutoIdx behind) h tt)
    (keeps_cond (bytes_eq w (codes "attribute")) _ _ (keeps_ok d (FileAttribute behind) h tt)
    (keeps_cond (bytes_eq w (codes "module")) _ _ (keeps_cond behind _ _ (keeps_err SeveralModules) (keeps_ok d Module h tt)) (keeps_err Syntax)))

bare_keeps : (d : DraftOf) (w : Word) → HasBits d → Keeps (bare_line d w)
bare_keeps d w h =
    keeps_cond _ _ _ (keeps_ok d ModuleParameter h tt)
    (keeps_cond _ _ _ (keeps_ok d (Signal Left []) h tt)
    (keeps_cond _ _ _ (keeps_ok d (File true) h tt) (keeps_err _)))

line_keeps : (d : DraftOf) (a : AttributesOf) (w : Word) → HasBits d → Keeps (line d a w)
unfolding line
line_keeps d a w h =
    keeps_cond _ _ _ (keeps_ok d (Attribute a) h tt)
    (keeps_cond _ _ _ (keeps_if (nat_lt (bits d) most_bits) _ _ (λ e. keeps_ok d (WireOption a (record { width = None; input = false })) h (omega arith, grind (arith, nat_tests))) (λ e. keeps_err _))
    (keeps_cond _ _ _ (keeps_ok d CellType h tt)
    (keeps_cond (bytes_eq w (codes "memory") || bytes_eq w (codes "process")) _ _ (keeps_err LeftOut)
    (keeps_cond (bytes_eq w (codes "module")) _ _ (keeps_err SeveralModules) (keeps_cond a.some _ _ (keeps_err Syntax) (bare_keeps d w h))))))

option_keeps : (d : DraftOf) (a : AttributesOf) (o : WireOptions) (w : Word) → HasBits d → HasRoom d o → Keeps (wire_option d a o w)
option_keeps d a o w h r =
    keeps_cond _ _ _ (keeps_cond _ _ _ (keeps_err _) (keeps_ok d (WireNumber a o Width) h r))
    (keeps_cond _ _ _ (keeps_ok d (WireNumber a o Offset) h r)
    (keeps_cond _ _ _ (keeps_ok d (WireNumber a o Input) h r)
    (keeps_cond _ _ _ (keeps_ok d (WireNumber a o Output) h r)
    (keeps_cond _ _ _ (keeps_err _) (keeps_cond _ _ _ (keeps_ok d (WireOption a o) h r) (keeps_err _))))))

width_keeps : (d : DraftOf) (a : AttributesOf) (o : WireOptions) (n : ℕ) → HasBits d → Keeps (wire_width d a o n)
width_keeps d a o n h =
    keeps_if (n == 0) _ _ (λ e. keeps_err _) (λ e.
    keeps_if (nat_le (bits d + n) most_bits) _ _ (λ f. keeps_ok d (WireOption a (record o { width = Some n })) h (grind (arith, nat_tests), grind (arith, nat_tests))) (λ f. keeps_err _))

number_keeps : (d : DraftOf) (a : AttributesOf) (o : WireOptions) (option : NumberedOption) (w : Word) → HasBits d → HasRoom d o → Keeps (wire_number d a o option w)
number_keeps d a o Width w h r = keeps_then (needs Syntax (number_of w)) _ (λ n. width_keeps d a o n h)
number_keeps d a o Offset w h r = keeps_then (needs Syntax (number_of (unsigned w))) _ (λ n. keeps_ok d (WireOption a o) h r)
number_keeps d a o Input w h r = keeps_then (needs Syntax (number_of w)) _ (λ n. keeps_ok d (WireOption a (record o { input = true })) h r)
number_keeps d a o Output w h r = keeps_then (needs Syntax (number_of w)) _ (λ n. keeps_ok d (WireOption a o) h r)

module_keeps : (d : DraftOf) (w : Word) (found : Option (List ℕ)) → HasBits d → Keeps (module_value d w found)
module_keeps d w None h = line_keeps d no_attributes w h
module_keeps d w (Some digits) h = keeps_ok d (Line no_attributes) h tt

ended_bits : (ignored : Bool) (d : DraftOf) (c : CellDraftOf) → HasBits d → HasBits (cond ignored d (with_cell d c.cell))
ended_bits true d c h = h
ended_bits false d c h = h

cell_keeps : (d : DraftOf) (c : CellDraftOf) (w : Word) → HasBits d → Keeps (cell_line d c w)
unfolding cell_line
cell_keeps d c w h =
    keeps_cond _ _ _ (keeps_ok d (CellParameter c) h tt)
    (keeps_cond _ _ _ (keeps_ok d (Port c) h tt)
    (keeps_cond _ _ _ (keeps_ok (cond c.ignored d (with_cell d c.cell)) (Line no_attributes) (ended_bits c.ignored d c h) tt)
    (keeps_cond (bytes_eq w (codes "module")) _ _ (keeps_err SeveralModules) (keeps_err Syntax))))

free_bits : (d : DraftOf) (n : ℕ) → nat_le (bits d + n) most_bits ≡ true → HasBits (with_free d n)
free_bits d n e = grind (arith, nat_tests)

parameter_keeps : (d : DraftOf) (c : CellDraftOf) (label : Option ParameterName) (digits : List ℕ) → HasBits d → Keeps (cell_parameter d c label digits)
parameter_keeps d c None digits h = keeps_ok d (CellLine c) h tt
parameter_keeps d c (Some p) digits h =
    keeps_cond _ _ _ (keeps_if (nat_le (bits d + open_digits digits) most_bits) _ _ (λ e. keeps_ok (with_free d (open_digits digits)) (CellLine _) (free_bits d (open_digits digits) e) tt) (λ e. keeps_err _))
    (keeps_ok d (CellLine _) h tt)

constant_keeps : (d : DraftOf) (t : Target) (rows : List Row) (digits : List ℕ) → HasBits d → Keeps (constant_part d t rows digits)
constant_keeps d t rows digits h =
    keeps_cond (is_empty digits) _ _ (keeps_err Syntax)
    (keeps_cond (list_any is_marker digits) _ _ (keeps_err LeftOut)
    (keeps_cond (is_ignored_target t) _ _ (keeps_ok d (Part t (map plain_bit digits ∷ rows)) h (omega arith))
    (keeps_if (nat_le (bits d + open_digits digits) most_bits) _ _
    (λ e. keeps_ok (with_free d (open_digits digits)) (Part t (numbered_bits d.design.free digits ∷ rows)) (free_bits d (open_digits digits) e) (omega arith)) (λ e. keeps_err Limit))))

signal_keeps : (d : DraftOf) (t : Target) (rows : List Row) (w : Word) → HasBits d → Keeps (signal_word d t rows w)
unfolding signal_word
signal_keeps d t rows w h = keeps_cond (bytes_eq w (codes "{")) _ _ (keeps_ok d (Signal t ([] ∷ rows)) h tt) (keeps_then (needs Syntax (constant_of 1 w)) _ (λ digits. constant_keeps d t rows digits h))

behind_keeps : (d : DraftOf) (t : Target) (row : Row) (w : Word) → HasBits d → Keeps (behind_signal d t row w)
behind_keeps d (ToPort c name) row w h = cell_keeps d (with_port c name row) w h
behind_keeps d Left row w h = signal_keeps d (Right (reverse row)) [] w h
behind_keeps d (Right left) row w h = line_keeps (with_connect d left row) no_attributes w h

slice_keeps : (d : DraftOf) (t : Target) (row : Row) (rows : List Row) (w : Word) → HasBits d → Keeps (slice_part d t row rows w)
slice_keeps d t row rows w h = keeps_then (slice_word row w) _ (λ part. keeps_ok d (Part t (part ∷ rows)) h (omega arith))

part_keeps : (d : DraftOf) (t : Target) (rows : List Row) (w : Word) → HasBits d → Keeps (part_word d t rows w)
unfolding part_word
part_keeps d t [] w h = keeps_err _
part_keeps d t (row ∷ []) w h = keeps_cond _ _ _ (slice_keeps d t row [] w h) (behind_keeps d t row w h)
part_keeps d t (row ∷ above ∷ rows) w h =
    keeps_cond _ _ _ (slice_keeps d t row (above ∷ rows) w h)
    (keeps_cond _ _ _ (keeps_ok d (Part t ((above ++ row) ∷ rows)) h (omega arith)) (signal_keeps d t ((above ++ row) ∷ rows) w h))

word_keeps : (d : DraftOf) (s : Spot) (w : Word) → Kept d s → Keeps (word_step d s w)
unfolding word_step
word_keeps d (File behind) w k = file_keeps d behind w k.bits
word_keeps d (AutoIdx behind) w k = keeps_then (needs Syntax (number_of w)) _ (λ n. keeps_ok d (File behind) k.bits tt)
word_keeps d (FileAttribute behind) w k = keeps_err _
word_keeps d (FileValue behind) w k = keeps_then (needs Syntax (constant_of 0 w)) _ (λ digits. keeps_ok d (File behind) k.bits tt)
word_keeps d Module w k = keeps_err _
word_keeps d (Line a) w k = line_keeps d a w k.bits
word_keeps d (Attribute a) w k = keeps_err _
word_keeps d (Value a is_init) w k = keeps_then (needs Syntax (constant_of 0 w)) _ (λ digits. keeps_ok d (Line (with_attribute a is_init digits)) k.bits tt)
word_keeps d ModuleParameter w k = keeps_err _
word_keeps d ModuleParameterValue w k = module_keeps d w (constant_of 1 w) k.bits
word_keeps d (WireOption a o) w k = option_keeps d a o w k.bits k.at
word_keeps d (WireNumber a o option) w k = number_keeps d a o option w k.bits k.at
word_keeps d CellType w k = keeps_err _
word_keeps d (CellName kind ignored) w k = keeps_err _
word_keeps d (CellLine c) w k = cell_keeps d c w k.bits
word_keeps d (CellParameter c) w k = keeps_cond (is_form w) _ _ (keeps_ok d (CellParameterName c) k.bits tt) (keeps_err _)
word_keeps d (CellParameterName c) w k = keeps_err _
word_keeps d (CellParameterValue c name) w k = keeps_then (needs Syntax (constant_of 1 w)) _ (λ digits. parameter_keeps d c name digits k.bits)
word_keeps d (Port c) w k = keeps_err _
word_keeps d (Signal t rows) w k = signal_keeps d t rows w k.bits
word_keeps d (Part t rows) w k = part_keeps d t rows w k.bits

-- ---- names

wire_kept : (d : DraftOf) (a : AttributesOf) (o : WireOptions) (name : Word) → HasRoom d o → HasBits (with_wire d (new_wire name a o))
wire_kept d a o name r =
    let e : sum_by (λ (w : WireOf). w.width) (d.design.wires ++ new_wire name a o ∷ []) ≡ sum_by (λ (w : WireOf). w.width) d.design.wires + sum_by (λ (w : WireOf). w.width) (new_wire name a o ∷ []) = sum_by-append (λ (w : WireOf). w.width) d.design.wires (new_wire name a o ∷ []) in
    omega arith

wire_name_keeps : (d : DraftOf) (a : AttributesOf) (o : WireOptions) (name : Word) → HasRoom d o → Keeps (wire_name d a o name)
wire_name_keeps d a o name r = keeps_cond _ _ _ (keeps_err _) (keeps_ok (with_wire d (new_wire name a o)) (Line no_attributes) (wire_kept d a o name r) tt)

cell_name_keeps : (d : DraftOf) (kind : Kind) (ignored : Bool) (name : Word) → HasBits d → Keeps (cell_name d kind ignored name)
cell_name_keeps d kind ignored name h = keeps_cond _ _ _ (keeps_err _) (keeps_ok (record d { cells = d.cells ++ name ∷ [] }) (CellLine _) h tt)

parameter_name_keeps : (d : DraftOf) (c : CellDraftOf) (name : Word) (label : Option ParameterName) → HasBits d → Keeps (begun_parameter d c name label)
parameter_name_keeps d c name label h = keeps_cond _ _ _ (keeps_err _) (keeps_ok d (CellParameterValue _ _) h tt)

port_name_keeps : (d : DraftOf) (c : CellDraftOf) (name : Word) (label : Option PortName) → HasBits d → Keeps (begun_port d c name label)
port_name_keeps d c name label h = keeps_cond _ _ _ (keeps_err _) (keeps_ok d (Signal _ []) h tt)

signal_name_keeps : (d : DraftOf) (t : Target) (rows : List Row) (name : Word) → HasBits d → Keeps (signal_name d t rows name)
unfolding signal_name
signal_name_keeps d t rows name h = keeps_then (needs UnknownWire (name_place (wire_names d.design.wires) name)) _ (λ i. keeps_ok d (Part t (row_at i (slice_get d.design.wires i) ∷ rows)) h (omega arith))

name_behind_keeps : (d : DraftOf) (t : Target) (row : Row) (name : Word) → HasBits d → Keeps (name_behind d t row name)
name_behind_keeps d (ToPort c port) row name h = keeps_err _
name_behind_keeps d Left row name h = signal_name_keeps d (Right (reverse row)) [] name h
name_behind_keeps d (Right left) row name h = keeps_err _

part_name_keeps : (d : DraftOf) (t : Target) (rows : List Row) (name : Word) → HasBits d → Keeps (part_name d t rows name)
unfolding part_name
part_name_keeps d t [] name h = keeps_err _
part_name_keeps d t (row ∷ []) name h = name_behind_keeps d t row name h
part_name_keeps d t (row ∷ above ∷ rows) name h = signal_name_keeps d t ((above ++ row) ∷ rows) name h

name_keeps : (d : DraftOf) (s : Spot) (name : Word) → Kept d s → Keeps (name_step d s name)
unfolding name_step
name_keeps d (File behind) name k = keeps_err _
name_keeps d (AutoIdx behind) name k = keeps_err _
name_keeps d (FileAttribute behind) name k = keeps_ok d (FileValue behind) k.bits tt
name_keeps d (FileValue behind) name k = keeps_err _
name_keeps d Module name k = keeps_ok (new_draft name) (Line no_attributes) (omega arith) tt
name_keeps d (Line a) name k = keeps_err _
name_keeps d (Attribute a) name k = keeps_ok d (Value a _) k.bits tt
name_keeps d (Value a is_init) name k = keeps_err _
name_keeps d ModuleParameter name k = keeps_ok d ModuleParameterValue k.bits tt
name_keeps d ModuleParameterValue name k = keeps_err _
name_keeps d (WireOption a o) name k = wire_name_keeps d a o name k.at
name_keeps d (WireNumber a o option) name k = keeps_err _
name_keeps d CellType name k = keeps_ok d (CellName _ _) k.bits tt
name_keeps d (CellName kind ignored) name k = cell_name_keeps d kind ignored name k.bits
name_keeps d (CellLine c) name k = keeps_err _
name_keeps d (CellParameter c) name k = parameter_name_keeps d c _ _ k.bits
name_keeps d (CellParameterName c) name k = parameter_name_keeps d c _ _ k.bits
name_keeps d (CellParameterValue c label) name k = keeps_err _
name_keeps d (Port c) name k = port_name_keeps d c _ _ k.bits
name_keeps d (Signal t rows) name k = signal_name_keeps d t rows name k.bits
name_keeps d (Part t rows) name k = part_name_keeps d t rows name k.bits

-- ---- texts

step_keeps : (d : DraftOf) (s : Spot) (w : Word) → Kept d s → Keeps (step d s w)
step_keeps d s w k = keeps_cond _ _ _ (keeps_cond _ _ _ (name_keeps d s w k) (keeps_err _)) (word_keeps d s w k)

steps_keep : (d : DraftOf) (s : Spot) (ws : List Word) → Kept d s → Keeps (steps d s ws)
steps_keep d s [] k = keeps_ok d s k.bits k.at
steps_keep d s (w ∷ ws) k = keeps_on (step d s w) (λ x. steps x.0 x.1 ws) (step_keeps d s w k) (λ x h. steps_keep x.0 x.1 ws h)

kept_of : (r : Outcome) (d : DraftOf) (s : Spot) → r ≡ Ok (d, s) → Keeps r → Kept d s
unfolding Keeps
kept_of r d s e h = subst Keeps e h

pub reading_kept : (ts : List TokenOf) (d : DraftOf) (s : Spot) → reading ts ≡ Ok (d, s) → Kept d s
reading_kept ts d s e =
    let start : Kept (new_draft []) (File false) = record { bits = omega arith; at = tt } in
    kept_of (reading ts) d s e (steps_keep (new_draft []) (File false) (words_of ts) start)
