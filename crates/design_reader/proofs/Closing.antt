-- Words that close what is open: from each spot that words lead to, further words lead to a text's end.
use Rattle.std.proofs.Common.{◌≡◌, ℕ, zero, suc, ◌+◌, ◌<◌, ◌≤◌, Bool, true, false, cond, List, [], ◌∷◌, ◌++◌, length, get_or, Option, Some, None, Ok, Err, refl, ap, ◌∙◌, arith}
use Rattle.std.specs.Prelude.{IsFalse, codes, bytes_eq, nat_le, reverse}
use Rattle.std.specs.List.{list_any, AllByRecursion}
use Rattle.std.proofs.lemmas.Str.{IsUtf8-from_ascii}
use Rattle.std.proofs.lemmas.Bool.Decides.{nat_tests}
use Rattle.std.proofs.lemmas.Slice.Eq.{bytes_eq-Decides}
use Rattle.design_core.specs.declared.names.ParameterName.{ParameterName}
use Rattle.design_core.specs.declared.names.PortName.{PortName}
use Rattle.cell_table.specs.declared.kind.Kind.{Kind}
use Rattle.design_signals.specs.declared.sig_bit.SigBit.{SigBit}
use Rattle.rtlil_lex.specs.Tokens.{is_space, IsToken}
use Rattle.rtlil_lex.specs.Tokens.IsToken.{name as name_token, word as word_token}
use Rattle.rtlil_constant.specs.Constants.{Word}
use Rattle.design_reader.specs.Parts.{AttributesOf, CellDraftOf, DraftOf, no_attributes}
use Rattle.design_reader.specs.Drafts.{HasRoom}
use Rattle.design_reader.specs.Grammar.{Outcome, ◌⊳◌, bits, most_bits, with_free, with_wire, with_cell, with_connect, with_port, new_draft, new_wire, new_cell, line, wire_width, wire_number, cell_line, cell_parameter, signal_word, part_word, word_step, parameter_name, port_name, name_step, step, steps, takes_free, is_ignored_target, has_parameter, has_port, wire_names}
use Rattle.design_reader.specs.declared.spot.WireOptions.{WireOptions}
use Rattle.design_reader.specs.declared.spot.NumberedOption.{NumberedOption}
use Rattle.design_reader.specs.declared.spot.NumberedOption.TheVariants.{Width, Offset, Input, Output}
use Rattle.design_reader.specs.declared.spot.Target.{Target}
use Rattle.design_reader.specs.declared.spot.Target.TheVariants.{Port as ToPort, Left, Right}
use Rattle.design_reader.specs.declared.spot.Spot.{Spot}
use Rattle.design_reader.specs.declared.spot.Spot.TheVariants.{File, AutoIdx, FileAttribute, FileValue, Module, Line, Attribute, Value, ModuleParameter, ModuleParameterValue, WireOption, WireNumber, CellType, CellName, CellLine, CellParameter, CellParameterName, CellParameterValue, Port, Signal, Part}
use Rattle.design_reader.proofs.WordLemmas.{step_name}
use Rattle.design_reader.proofs.Room.{Kept}

abbrev Row : Type 0
Row = List SigBit

-- a word that is a token where a line feed follows it
pub record IsLone (w : Word) : Type 0 where
  pub token : (rest : List ℕ) → IsToken w (10 ∷ rest)

-- words that lead to a text's end
pub record Closes (d : DraftOf) (s : Spot) : Type 0 where
  pub words : List Word
  pub lone : AllByRecursion IsLone words
  pub last : DraftOf
  pub closes : steps d s words ≡ Ok (last, File true)

-- they follow a word that is read
ClosesAfter : Outcome → Type 0
ClosesAfter (Ok x) = Closes x.0 x.1
ClosesAfter (Err k) = ⊥

then_closes : (d : DraftOf) (s : Spot) → Closes d s → ClosesAfter (Ok (d, s))
unfolding ClosesAfter
then_closes d s h = h

cond_closes : (b : Bool) (x y : Outcome) → ClosesAfter x → ClosesAfter y → ClosesAfter (cond b x y)
cond_closes true x y h k = h
cond_closes false x y h k = k

true_closes : (b : Bool) (x y : Outcome) → b ≡ true → ClosesAfter x → ClosesAfter (cond b x y)
true_closes b x y e h = rw e h

false_closes : (b : Bool) (x y : Outcome) → b ≡ false → ClosesAfter y → ClosesAfter (cond b x y)
false_closes b x y e h = rw e h

after : (r : Outcome) → ClosesAfter r → (x : DraftOf × Spot) × (r ≡ Ok (x.0, x.1)) × Closes x.0 x.1
unfolding ClosesAfter
after (Ok x) h = (x, refl, h)
after (Err k) h = absurd h

closes_here : (d : DraftOf) → Closes d (File true)
closes_here d = record { words = []; lone = tt; last = d; closes = refl }

closes_by : (d : DraftOf) (s : Spot) (w : Word) → IsLone w → ClosesAfter (step d s w) → Closes d s
closes_by d s w l h =
    let r = after (step d s w) h in
    record {
      words = w ∷ r.2.words;
      lone = (l, r.2.lone);
      last = r.2.last;
      closes = ap (λ (o : Outcome). o ⊳ λ x. steps x.0 x.1 r.2.words) r.1 ∙ r.2.closes;
    }

-- ---- the words

abbrev end_word : Word
end_word = codes "end"

abbrev bit_word : Word
bit_word = codes "1'0"

abbrev one_word : Word
one_word = codes "1"

end_lone : IsLone end_word
end_lone = record { token = λ rest. word_token 101 (110 ∷ 100 ∷ []) (10 ∷ rest) refl (record { inside = (refl, (refl, tt)); after = refl }) }

bit_lone : IsLone bit_word
bit_lone = record { token = λ rest. word_token 49 (39 ∷ 48 ∷ []) (10 ∷ rest) refl (record { inside = (refl, (refl, tt)); after = refl }) }

one_lone : IsLone one_word
one_lone = record { token = λ rest. word_token 49 [] (10 ∷ rest) refl (record { inside = tt; after = refl }) }

brace_lone : IsLone (codes "}")
brace_lone = record { token = λ rest. word_token 125 [] (10 ∷ rest) refl (record { inside = tt; after = refl }) }

cell_lone : IsLone (codes "cell")
cell_lone = record { token = λ rest. word_token 99 (101 ∷ 108 ∷ 108 ∷ []) (10 ∷ rest) refl (record { inside = (refl, (refl, (refl, tt))); after = refl }) }

module_lone : IsLone (codes "module")
module_lone = record { token = λ rest. word_token 109 (111 ∷ 100 ∷ 117 ∷ 108 ∷ 101 ∷ []) (10 ∷ rest) refl (record { inside = (refl, (refl, (refl, (refl, (refl, tt))))); after = refl }) }

-- ---- a name that is longer than others

letters : ℕ → List ℕ
letters zero = []
letters (suc n) = 97 ∷ letters n

abbrev fresh : ℕ → Word
fresh n = 36 ∷ letters n

letters_long : (n : ℕ) → length (letters n) ≡ n
unfolding letters
letters_long zero = refl
letters_long (suc n) = ap suc (letters_long n)

letters_no_space : (n : ℕ) → AllByRecursion (λ b. IsFalse (is_space b)) (letters n)
unfolding letters
letters_no_space zero = tt
letters_no_space (suc n) = (refl, letters_no_space n)

letters_small : (n i : ℕ) → get_or (letters n) i 0 < 128
unfolding letters
letters_small zero i = omega arith
letters_small (suc n) zero = omega arith
letters_small (suc n) (suc i) = letters_small n i

fresh_small : (n i : ℕ) → get_or (fresh n) i 0 < 128
fresh_small n zero = omega arith
fresh_small n (suc i) = letters_small n i

fresh_lone : (n : ℕ) → IsLone (fresh n)
fresh_lone n = record { token = λ rest. name_token 36 (letters n) (10 ∷ rest) refl (record { inside = letters_no_space n; after = refl }) }

fresh_step : (d : DraftOf) (s : Spot) (n : ℕ) → step d s (fresh n) ≡ name_step d s (fresh n)
fresh_step d s n = step_name d s (fresh n) refl (IsUtf8-from_ascii (fresh n) (fresh_small n))

name_closes : (d : DraftOf) (s : Spot) (n : ℕ) → ClosesAfter (name_step d s (fresh n)) → Closes d s
name_closes d s n h = closes_by d s (fresh n) (fresh_lone n) (rw (fresh_step d s n) h)

-- other bytes, of another length
differ : (w : Word) (n : ℕ) → length w ≤ n → bytes_eq w (fresh n) ≡ false
differ w n h =
    elim (bytes_eq w (fresh n)) as (λ v. bytes_eq w (fresh n) ≡ v → v ≡ false) [
      | true ↦ λ e. let same : w ≡ fresh n = (bytes_eq-Decides w (fresh n)).0 e in absurd (omega (arith, ap (λ (x : Word). length x) same, letters_long n))
      | false ↦ λ e. refl
    ] refl

-- how many bytes the names of these have
abbrev total : {K : Type 0} → (K → Word) → List K → ℕ
total f [] = 0
total f (k ∷ ks) = length (f k) + total f ks

none_named : {K : Type 0} (f : K → Word) (ks : List K) (n : ℕ) → total f ks ≤ n → list_any (λ k. bytes_eq (f k) (fresh n)) ks ≡ false
none_named f [] n h = refl
none_named f (k ∷ ks) n h =
    let here : bytes_eq (f k) (fresh n) ≡ false = differ (f k) n (omega arith) in
    rw here (none_named f ks n (omega arith))

-- ---- the spots, from the outermost in

end_line : (d : DraftOf) → ClosesAfter (line d no_attributes end_word)
unfolding line
end_line d = then_closes d (File true) (closes_here d)

end_module : (d : DraftOf) → ClosesAfter (step d (Line no_attributes) end_word)
unfolding word_step
end_module d = end_line d

module_closes : (d : DraftOf) → Closes d (Line no_attributes)
module_closes d = closes_by d (Line no_attributes) end_word end_lone (end_module d)

end_cell : (d : DraftOf) (c : CellDraftOf) → ClosesAfter (cell_line d c end_word)
unfolding cell_line
end_cell d c = then_closes (cond c.ignored d (with_cell d c.cell)) (Line no_attributes) (module_closes _)

cell_closes : (d : DraftOf) (c : CellDraftOf) → Closes d (CellLine c)
unfolding word_step
cell_closes d c = closes_by d (CellLine c) end_word end_lone (end_cell d c)

cell_name_closes : (d : DraftOf) (kind : Kind) (ignored : Bool) → Closes d (CellName kind ignored)
unfolding name_step
cell_name_closes d kind ignored =
    let n = total (λ (w : Word). w) d.cells in
    let free : list_any (λ w. bytes_eq w (fresh n)) d.cells ≡ false = none_named (λ (w : Word). w) d.cells n (omega arith) in
    name_closes d (CellName kind ignored) n (false_closes _ _ _ free (then_closes _ (CellLine (new_cell kind (fresh n) ignored)) (cell_closes _ _)))

cell_type_closes : (d : DraftOf) → Closes d CellType
unfolding name_step
cell_type_closes d = name_closes d CellType 0 (then_closes d (CellName _ _) (cell_name_closes d _ _))

cell_begins : (d : DraftOf) (a : AttributesOf) → ClosesAfter (line d a (codes "cell"))
unfolding line
cell_begins d a = then_closes d CellType (cell_type_closes d)

-- an item comes after the attributes
line_closes : (d : DraftOf) (a : AttributesOf) → Closes d (Line a)
unfolding word_step
line_closes d a = closes_by d (Line a) (codes "cell") cell_lone (cell_begins d a)

value_closes : (d : DraftOf) (a : AttributesOf) (is_init : Bool) → Closes d (Value a is_init)
unfolding word_step
value_closes d a is_init = closes_by d (Value a is_init) bit_word bit_lone (then_closes d (Line _) (line_closes d _))

attribute_closes : (d : DraftOf) (a : AttributesOf) → Closes d (Attribute a)
unfolding name_step
attribute_closes d a = name_closes d (Attribute a) 0 (then_closes d (Value a _) (value_closes d a _))

module_value_closes : (d : DraftOf) → Closes d ModuleParameterValue
unfolding word_step
module_value_closes d = closes_by d ModuleParameterValue end_word end_lone (end_line d)

module_parameter_closes : (d : DraftOf) → Closes d ModuleParameter
unfolding name_step
module_parameter_closes d = name_closes d ModuleParameter 0 (then_closes d ModuleParameterValue (module_value_closes d))

module_name_closes : (d : DraftOf) → Closes d Module
unfolding name_step
module_name_closes d = name_closes d Module 0 (then_closes (new_draft (fresh 0)) (Line no_attributes) (module_closes _))

-- ---- wires

wire_closes : (d : DraftOf) (a : AttributesOf) (o : WireOptions) → Closes d (WireOption a o)
unfolding name_step
wire_closes d a o =
    let names = wire_names d.design.wires in
    let n = total (λ (w : Word). w) names in
    let free : list_any (λ w. bytes_eq w (fresh n)) names ≡ false = none_named (λ (w : Word). w) names n (omega arith) in
    name_closes d (WireOption a o) n (false_closes _ _ _ free (then_closes (with_wire d (new_wire (fresh n) a o)) (Line no_attributes) (module_closes _)))

width_closes : (d : DraftOf) (a : AttributesOf) (o : WireOptions) → bits d + 1 ≤ most_bits → ClosesAfter (wire_width d a o 1)
width_closes d a o h =
    let fits : nat_le (bits d + 1) most_bits ≡ true = grind (arith, nat_tests) in
    true_closes (nat_le (bits d + 1) most_bits) _ _ fits (then_closes d (WireOption a (record o { width = Some 1 })) (wire_closes d a _))

number_closes : (d : DraftOf) (a : AttributesOf) (o : WireOptions) (option : NumberedOption) → HasRoom d o → ClosesAfter (wire_number d a o option one_word)
number_closes d a o Width r = width_closes d a o (omega arith)
number_closes d a o Offset r = then_closes d (WireOption a o) (wire_closes d a o)
number_closes d a o Input r = then_closes d (WireOption a (record o { input = true })) (wire_closes d a _)
number_closes d a o Output r = then_closes d (WireOption a o) (wire_closes d a o)

wire_number_closes : (d : DraftOf) (a : AttributesOf) (o : WireOptions) (option : NumberedOption) → HasRoom d o → Closes d (WireNumber a o option)
unfolding word_step
wire_number_closes d a o option r = closes_by d (WireNumber a o option) one_word one_lone (number_closes d a o option r)

-- ---- cells

fits_none : (d : DraftOf) → bits d ≤ most_bits → nat_le (bits d + 0) most_bits ≡ true
fits_none d h = grind (arith, nat_tests)

bit_parameter : (d : DraftOf) (c : CellDraftOf) (label : Option ParameterName) → bits d ≤ most_bits → ClosesAfter (cell_parameter d c label (48 ∷ []))
bit_parameter d c None h = then_closes d (CellLine c) (cell_closes d c)
bit_parameter d c (Some p) h =
    cond_closes (takes_free p) _ _ (true_closes (nat_le (bits d + 0) most_bits) _ _ (fits_none d h) (then_closes (with_free d 0) (CellLine _) (cell_closes _ _)))
    (then_closes d (CellLine _) (cell_closes d _))

parameter_value_closes : (d : DraftOf) (c : CellDraftOf) (label : Option ParameterName) → bits d ≤ most_bits → Closes d (CellParameterValue c label)
unfolding word_step
parameter_value_closes d c label h = closes_by d (CellParameterValue c label) bit_word bit_lone (bit_parameter d c label h)

-- a parameter of a name that the table doesn't know
new_parameter : (d : DraftOf) (c : CellDraftOf) → bits d ≤ most_bits → ClosesAfter (parameter_name d c (fresh (total (λ (w : Word). w) c.others)))
new_parameter d c h =
    let n = total (λ (w : Word). w) c.others in
    let free : has_parameter c (fresh n) None ≡ false = none_named (λ (w : Word). w) c.others n (omega arith) in
    false_closes (has_parameter c (fresh n) None) _ _ free (then_closes d (CellParameterValue _ None) (parameter_value_closes d _ None h))

parameter_closes : (d : DraftOf) (c : CellDraftOf) → bits d ≤ most_bits → Closes d (CellParameter c)
unfolding name_step
parameter_closes d c h = name_closes d (CellParameter c) _ (new_parameter d c h)

parameter_name_closes : (d : DraftOf) (c : CellDraftOf) → bits d ≤ most_bits → Closes d (CellParameterName c)
unfolding name_step
parameter_name_closes d c h = name_closes d (CellParameterName c) _ (new_parameter d c h)

-- ---- signals

-- the last signal of a line
last_part : (d : DraftOf) (c : CellDraftOf) (label : Option PortName) (row : Row) → Closes d (Part (ToPort c label) (row ∷ []))
unfolding word_step part_word
last_part d c label row = closes_by d (Part (ToPort c label) (row ∷ [])) end_word end_lone (end_cell d (with_port c label row))

right_part : (d : DraftOf) (left row : Row) → Closes d (Part (Right left) (row ∷ []))
unfolding word_step part_word
right_part d left row = closes_by d (Part (Right left) (row ∷ [])) end_word end_lone (end_line (with_connect d left row))

-- a bit as the next signal
bit_closes : (d : DraftOf) (t : Target) (rows : List Row) → bits d ≤ most_bits → ((e : DraftOf) (row : Row) → bits e ≤ most_bits → Closes e (Part t (row ∷ rows))) → ClosesAfter (signal_word d t rows bit_word)
unfolding signal_word
bit_closes d t rows h f =
    cond_closes (is_ignored_target t) _ _ (then_closes d (Part t (_ ∷ rows)) (f d _ h))
    (true_closes (nat_le (bits d + 0) most_bits) _ _ (fits_none d h) (then_closes (with_free d 0) (Part t (_ ∷ rows)) (f (with_free d 0) _ (omega arith))))

left_part : (d : DraftOf) (row : Row) → bits d ≤ most_bits → Closes d (Part Left (row ∷ []))
unfolding word_step part_word
left_part d row h = closes_by d (Part Left (row ∷ [])) bit_word bit_lone (bit_closes d (Right (reverse row)) [] h (λ e other k. right_part e (reverse row) other))

one_part : (d : DraftOf) (t : Target) (row : Row) → bits d ≤ most_bits → Closes d (Part t (row ∷ []))
one_part d (ToPort c name) row h = last_part d c name row
one_part d Left row h = left_part d row h
one_part d (Right left) row h = right_part d left row

-- a brace for each open concatenation
part_closes : (d : DraftOf) (t : Target) (row : Row) (rows : List Row) → bits d ≤ most_bits → Closes d (Part t (row ∷ rows))
unfolding word_step part_word
part_closes d t row [] h = one_part d t row h
part_closes d t row (above ∷ rows) h =
    closes_by d (Part t (row ∷ above ∷ rows)) (codes "}") brace_lone (then_closes d (Part t ((above ++ row) ∷ rows)) (part_closes d t (above ++ row) rows h))

parts_close : (d : DraftOf) (t : Target) (rows : List Row) → bits d ≤ most_bits → 0 < length rows → Closes d (Part t rows)
parts_close d t [] h some = absurd (omega arith)
parts_close d t (row ∷ rows) h some = part_closes d t row rows h

signal_closes : (d : DraftOf) (t : Target) (rows : List Row) → bits d ≤ most_bits → Closes d (Signal t rows)
unfolding word_step
signal_closes d t rows h = closes_by d (Signal t rows) bit_word bit_lone (bit_closes d t rows h (λ e row k. part_closes e t row rows k))

-- a port of a name that the table doesn't know
new_port : (d : DraftOf) (c : CellDraftOf) → bits d ≤ most_bits → ClosesAfter (port_name d c (fresh (total (λ (w : Word). w) c.cell.foreign)))
new_port d c h =
    let n = total (λ (w : Word). w) c.cell.foreign in
    let free : has_port c (fresh n) None ≡ false = none_named (λ (w : Word). w) c.cell.foreign n (omega arith) in
    false_closes (has_port c (fresh n) None) _ _ free (then_closes d (Signal (ToPort _ None) []) (signal_closes d _ [] h))

port_closes : (d : DraftOf) (c : CellDraftOf) → bits d ≤ most_bits → Closes d (Port c)
unfolding name_step
port_closes d c h = name_closes d (Port c) _ (new_port d c h)

-- ---- the file

module_begins : (d : DraftOf) → Closes d (File false)
unfolding word_step
module_begins d = closes_by d (File false) (codes "module") module_lone (then_closes d Module (module_name_closes d))

file_closes : (d : DraftOf) (behind : Bool) → Closes d (File behind)
file_closes d true = closes_here d
file_closes d false = module_begins d

index_closes : (d : DraftOf) (behind : Bool) → Closes d (AutoIdx behind)
unfolding word_step
index_closes d behind = closes_by d (AutoIdx behind) one_word one_lone (then_closes d (File behind) (file_closes d behind))

file_value_closes : (d : DraftOf) (behind : Bool) → Closes d (FileValue behind)
unfolding word_step
file_value_closes d behind = closes_by d (FileValue behind) bit_word bit_lone (then_closes d (File behind) (file_closes d behind))

file_attribute_closes : (d : DraftOf) (behind : Bool) → Closes d (FileAttribute behind)
unfolding name_step
file_attribute_closes d behind = name_closes d (FileAttribute behind) 0 (then_closes d (FileValue behind) (file_value_closes d behind))

-- each spot that words lead to
pub spot_closes : (d : DraftOf) (s : Spot) → Kept d s → Closes d s
spot_closes d (File behind) k = file_closes d behind
spot_closes d (AutoIdx behind) k = index_closes d behind
spot_closes d (FileAttribute behind) k = file_attribute_closes d behind
spot_closes d (FileValue behind) k = file_value_closes d behind
spot_closes d Module k = module_name_closes d
spot_closes d (Line a) k = line_closes d a
spot_closes d (Attribute a) k = attribute_closes d a
spot_closes d (Value a is_init) k = value_closes d a is_init
spot_closes d ModuleParameter k = module_parameter_closes d
spot_closes d ModuleParameterValue k = module_value_closes d
spot_closes d (WireOption a o) k = wire_closes d a o
spot_closes d (WireNumber a o option) k = wire_number_closes d a o option k.at
spot_closes d CellType k = cell_type_closes d
spot_closes d (CellName kind ignored) k = cell_name_closes d kind ignored
spot_closes d (CellLine c) k = cell_closes d c
spot_closes d (CellParameter c) k = parameter_closes d c k.bits
spot_closes d (CellParameterName c) k = parameter_name_closes d c k.bits
spot_closes d (CellParameterValue c name) k = parameter_value_closes d c name k.bits
spot_closes d (Port c) k = port_closes d c k.bits
spot_closes d (Signal t rows) k = signal_closes d t rows k.bits
spot_closes d (Part t rows) k = parts_close d t rows k.bits k.at
