-- Each text of a file is read as its design.
use Rattle.std.proofs.Common.{◌≡◌, ℕ, ◌+◌, ◌≤◌, ◌^◌, Bool, true, false, List, [], ◌∷◌, ◌++◌, length, reverse, refl, sym, ap, ◌∙◌, subst, append-nil, append_assoc, arith, bytes_eq}
use Rattle.std.specs.Prelude.{codes, All}
use Rattle.std.specs.List.{IsDistinct, list_any, range_with_len}
use Rattle.std.proofs.lemmas.List.{map-append, reverse-reverse}
use Rattle.std.proofs.lemmas.List.Elements.{All-nil, All-push}
use Rattle.std.proofs.lemmas.List.Sums.{sum_by-append, sum_by-cons}
use Rattle.rtlil_lex.specs.Tokens.{TokenOf, IsTokens}
use Rattle.rtlil_constant.specs.Constants.{Word}
use Rattle.design_core.specs.Shape.{WireOf, CellOf, DesignOf, wire_bits}
use Rattle.design_reader.specs.Parts.{DraftOf, no_attributes}
use Rattle.design_reader.specs.Grammar.{goes_on, most_bits, line, name_step, new_draft, step, steps, wire_names, with_connect, words_of, word_step, Reads}
use Rattle.design_reader.specs.declared.spot.Target.TheVariants.{Left, Right}
use Rattle.design_reader.specs.declared.spot.Spot.{Spot}
use Rattle.design_reader.specs.declared.spot.Spot.TheVariants.{File, AutoIdx, FileAttribute, FileValue, Module, ModuleParameter, ModuleParameterValue, Line as LineSpot, Signal, Part}
use Rattle.reader_law.specs.Printed.{Line, IsIdentifier}
use Rattle.reader_law.specs.ConstantTexts.{State, IsConstantText, IsNumberText}
use Rattle.reader_law.specs.SignalTexts.{IsSignalText}
use Rattle.reader_law.specs.CellTexts.{IsCellText, IsIgnoredText}
use Rattle.reader_law.specs.WireTexts.{IsAttributes, IsWireText}
use Rattle.reader_law.specs.WireTexts.IsAttributes.{no_attribute, init, other}
use Rattle.reader_law.specs.FileTexts.{IsFileLines, IsModuleText, IsFileText}
use Rattle.reader_law.specs.FileTexts.IsFileLines.{no_line, autoidx, attribute}
use Rattle.reader_law.specs.FileTexts.IsModuleText.{name_line, parameter, parameter_value, wire, cell, ignored_cell, connect}
use Rattle.reader_law.proofs.Steps.{are_named, Bits, AreNamed, IsHere, Next, free_at, next_range, next_rises, next_split, one, step_named}
use Rattle.reader_law.proofs.CellWords.{IsKey, IsLeft, distinct_push, connect_begins, connect_key, connect_step, end_begins, key_left, parameter_word, same_left}
use Rattle.reader_law.proofs.ConstantSteps.{file_value_steps, module_value_steps, number_plain, number_read}
use Rattle.reader_law.proofs.SignalSteps.{right_steps, text_steps}
use Rattle.reader_law.proofs.CellSteps.{cell_text_steps, ignored_text_steps}
use Rattle.reader_law.proofs.WireSteps.{attributed, wire_text_steps, wire_words}

abbrev Top : Spot
Top = LineSpot no_attributes

-- ---- lines beside the module

autoidx_begins : (d : DraftOf) (behind : Bool) → step d (File behind) (codes "autoidx") ≡ goes_on d (AutoIdx behind)
unfolding word_step
autoidx_begins d behind = refl

autoidx_reads : (d : DraftOf) (behind : Bool) (w : Word) (n : ℕ) → IsNumberText w n → step d (AutoIdx behind) w ≡ goes_on d (File behind)
unfolding word_step
autoidx_reads d behind w n t = let p = (number_plain w n t).name in let r = number_read w n t in rw (p, r) refl

attribute_begins : (d : DraftOf) (behind : Bool) → step d (File behind) (codes "attribute") ≡ goes_on d (FileAttribute behind)
unfolding word_step
attribute_begins d behind = refl

attribute_named : (d : DraftOf) (behind : Bool) (name : Word) → IsIdentifier name → step d (FileAttribute behind) name ≡ goes_on d (FileValue behind)
unfolding name_step
attribute_named d behind name i = step_named d (FileAttribute behind) name i

file_steps : (d : DraftOf) (behind : Bool) (ws : Line) (rest : List Word) → IsFileLines ws → steps d (File behind) (ws ++ rest) ≡ steps d (File behind) rest
file_steps d behind ws rest no_line = refl
file_steps d behind ws rest (autoidx w n vs t p) =
    one d d (File behind) (AutoIdx behind) (codes "autoidx") (w ∷ (vs ++ rest)) (autoidx_begins d behind)
    ∙ one d d (AutoIdx behind) (File behind) w (vs ++ rest) (autoidx_reads d behind w n t)
    ∙ file_steps d behind vs rest p
file_steps d behind ws rest (attribute name w states vs i t p) =
    one d d (File behind) (FileAttribute behind) (codes "attribute") (name ∷ w ∷ (vs ++ rest)) (attribute_begins d behind)
    ∙ one d d (FileAttribute behind) (FileValue behind) name (w ∷ (vs ++ rest)) (attribute_named d behind name i)
    ∙ file_value_steps d behind w states (vs ++ rest) t
    ∙ file_steps d behind vs rest p

-- ---- how lines begin

cell_key : IsKey (codes "cell")
cell_key = record { name = refl; slice = refl; constant = refl }

attribute_key : IsKey (codes "attribute")
attribute_key = record { name = refl; slice = refl; constant = refl }

wire_key : IsKey (codes "wire")
wire_key = record { name = refl; slice = refl; constant = refl }

attributes_left : (ws : Line) (inits : List (List State)) (rest : List Word) → IsAttributes ws inits → IsLeft rest → IsLeft (ws ++ rest)
attributes_left ws inits rest no_attribute l = l
attributes_left ws inits rest (init w states vs more t p) l = key_left (codes "attribute") (codes "\\init" ∷ w ∷ (vs ++ rest)) attribute_key
attributes_left ws inits rest (other name w states vs more i h t p) l = key_left (codes "attribute") (name ∷ w ∷ (vs ++ rest)) attribute_key

wire_left : (ws : Line) (x : WireOf) (rest : List Word) → IsWireText ws x → IsLeft (ws ++ rest)
wire_left ws x rest t =
    let lines = t.options ++ x.name ∷ rest in
    subst (λ (y : List Word). IsLeft y) (sym (wire_words ws x rest t)) (attributes_left t.attributes t.inits (codes "wire" ∷ lines) t.is_attributes (key_left (codes "wire") lines wire_key))

cell_left : (wires : List WireOf) (ws : Line) (c : CellOf) (numbers : List ℕ) (rest : List Word) → IsCellText wires ws c numbers → IsLeft (ws ++ rest)
cell_left wires ws c numbers rest t =
    subst (λ (y : Line). IsLeft (y ++ rest)) (sym t.are) (key_left (codes "cell") ((t.type_word ∷ c.name ∷ (t.lines ++ codes "end" ∷ [])) ++ rest) cell_key)

-- ---- lines of the module

module_begins : (d : DraftOf) → step d (File false) (codes "module") ≡ goes_on d Module
unfolding word_step
module_begins d = refl

module_named : (d : DraftOf) (name : Word) → IsIdentifier name → step d Module name ≡ goes_on (new_draft name) Top
unfolding name_step
module_named d name i = step_named d Module name i

module_ends : (d : DraftOf) → step d Top (codes "end") ≡ goes_on d (File true)
unfolding word_step line
module_ends d = refl

module_parameter : (d : DraftOf) → step d Top (codes "parameter") ≡ goes_on d ModuleParameter
unfolding word_step line
module_parameter d = refl

parameter_named : (d : DraftOf) (name : Word) → IsIdentifier name → step d ModuleParameter name ≡ goes_on d ModuleParameterValue
unfolding name_step
parameter_named d name i = step_named d ModuleParameter name i

-- without a constant the next line follows
no_value : (d : DraftOf) (w : Word) → IsKey w → step d ModuleParameterValue w ≡ step d Top w
unfolding word_step
no_value d w k = let a = k.name in let b = k.constant in rw (a, b) refl

-- ---- the module

abbrev draft : DesignOf → List Word → DraftOf
draft d cells = record { design = d; cells = cells }

-- where the words of a module lead
record Leads (ws : Line) (d : DesignOf) (cells : List Word) : Type 0 where
  names : All (λ w. IsIdentifier w.name) d.wires
  distinct : IsDistinct bytes_eq (wire_names d.wires)
  room : wire_bits d + d.free ≤ most_bits
  steps_are : (e : DraftOf) (rest : List Word) → IsLeft rest → steps e (File false) (ws ++ rest) ≡ steps (draft d cells) Top rest

wires_named : (ws : Line) (d : DesignOf) (cells : List Word) → Leads ws d cells → AreNamed d.wires
wires_named ws d cells r = are_named d.wires r.names r.distinct (omega (arith, r.room))

none_distinct : IsDistinct bytes_eq (wire_names [])
unfolding IsDistinct
none_distinct = tt

name_leads : (name : Word) → IsIdentifier name → Leads (codes "module" ∷ name ∷ []) (new_draft name).design []
name_leads name i = record {
  names = All-nil (λ (w : WireOf). IsIdentifier w.name);
  distinct = none_distinct;
  room = omega arith;
  steps_are = λ e rest l. one e e (File false) Module (codes "module") (name ∷ rest) (module_begins e) ∙ one e (new_draft name) Module Top name rest (module_named e name i);
}

parameter_leads : (ws : Line) (d : DesignOf) (cells : List Word) (name : Word) → Leads ws d cells → IsIdentifier name → Leads (ws ++ codes "parameter" ∷ name ∷ []) d cells
parameter_leads ws d cells name r i = record {
  names = r.names;
  distinct = r.distinct;
  room = r.room;
  steps_are = λ e rest l.
      let f = draft d cells in
      ap (λ (x : List Word). steps e (File false) x) (append_assoc ws (codes "parameter" ∷ name ∷ []) rest)
      ∙ r.steps_are e (codes "parameter" ∷ name ∷ rest) (key_left (codes "parameter") (name ∷ rest) parameter_word)
      ∙ one f f Top ModuleParameter (codes "parameter") (name ∷ rest) (module_parameter f)
      ∙ one f f ModuleParameter ModuleParameterValue name rest (parameter_named f name i)
      ∙ same_left f f ModuleParameterValue Top rest (no_value f) l;
}

value_leads : (ws : Line) (d : DesignOf) (cells : List Word) (name w : Word) (states : List State) → Leads ws d cells → IsIdentifier name → IsConstantText w states → Leads (ws ++ codes "parameter" ∷ name ∷ w ∷ []) d cells
value_leads ws d cells name w states r i t = record {
  names = r.names;
  distinct = r.distinct;
  room = r.room;
  steps_are = λ e rest l.
      let f = draft d cells in
      ap (λ (x : List Word). steps e (File false) x) (append_assoc ws (codes "parameter" ∷ name ∷ w ∷ []) rest)
      ∙ r.steps_are e (codes "parameter" ∷ name ∷ w ∷ rest) (key_left (codes "parameter") (name ∷ w ∷ rest) parameter_word)
      ∙ one f f Top ModuleParameter (codes "parameter") (name ∷ w ∷ rest) (module_parameter f)
      ∙ one f f ModuleParameter ModuleParameterValue name (w ∷ rest) (parameter_named f name i)
      ∙ module_value_steps f w states rest t;
}

wire_leads : (ws us : Line) (d : DesignOf) (cells : List Word) (x : WireOf) → Leads ws d cells → IsWireText us x → list_any (λ n. bytes_eq n x.name) (wire_names d.wires) ≡ false → wire_bits d + d.free + x.width ≤ 2 ^ 20
    → Leads (ws ++ us) (record d { wires = d.wires ++ x ∷ [] }) cells
wire_leads ws us d cells x r t none few =
    let names : wire_names (d.wires ++ x ∷ []) ≡ wire_names d.wires ++ x.name ∷ [] = map-append (λ (y : WireOf). y.name) d.wires (x ∷ []) in
    let width = λ (y : WireOf). y.width in
    record {
      names = All-push (λ (y : WireOf). IsIdentifier y.name) d.wires x r.names t.name;
      distinct = subst (λ (y : List Word). IsDistinct bytes_eq y) (sym names) (distinct_push (wire_names d.wires) x.name r.distinct none);
      room = omega (arith, few, sum_by-append width d.wires (x ∷ []), sum_by-cons width x []);
      steps_are = λ e rest l.
          ap (λ (y : List Word). steps e (File false) y) (append_assoc ws us rest)
          ∙ r.steps_are e (us ++ rest) (wire_left us x rest t)
          ∙ wire_text_steps (draft d cells) us x rest t none few;
    }

cell_leads : (ws us vs : Line) (d : DesignOf) (cells : List Word) (inits : List (List State)) (c : CellOf) (count : ℕ) → Leads ws d cells → IsAttributes us inits → IsCellText d.wires vs c (range_with_len d.free count)
    → list_any (λ n. bytes_eq n c.name) cells ≡ false → wire_bits d + (d.free + count) ≤ 2 ^ 20
    → Leads (ws ++ (us ++ vs)) (record d { cells = d.cells ++ c ∷ []; free = d.free + count }) (cells ++ c.name ∷ [])
cell_leads ws us vs d cells inits c count r q t none few = record {
  names = r.names;
  distinct = r.distinct;
  room = few;
  steps_are = λ e rest l.
      let f = draft d cells in
      let b = attributed no_attributes us inits q in
      let numbers = range_with_len d.free count in
      ap (λ (y : List Word). steps e (File false) y) (append_assoc ws (us ++ vs) rest ∙ ap (λ (y : List Word). ws ++ y) (append_assoc us vs rest))
      ∙ r.steps_are e (us ++ (vs ++ rest)) (attributes_left us inits (vs ++ rest) q (cell_left d.wires vs c numbers rest t))
      ∙ b.steps_are f (vs ++ rest)
      ∙ cell_text_steps f b.after vs c numbers (d.free + count) rest (wires_named ws d cells r) none t (next_range d.free count (d.free + count) refl) few;
}

ignored_leads : (ws us vs : Line) (d : DesignOf) (cells : List Word) (inits : List (List State)) (name : Word) → Leads ws d cells → IsAttributes us inits → IsIgnoredText d.wires vs name → list_any (λ n. bytes_eq n name) cells ≡ false
    → Leads (ws ++ (us ++ vs)) d (cells ++ name ∷ [])
ignored_leads ws us vs d cells inits name r q t none = record {
  names = r.names;
  distinct = r.distinct;
  room = r.room;
  steps_are = λ e rest l.
      let f = draft d cells in
      let b = attributed no_attributes us inits q in
      let left = subst (λ (y : Line). IsLeft (y ++ rest)) (sym t.are) (key_left (codes "cell") ((t.type_word ∷ name ∷ (t.lines ++ codes "end" ∷ [])) ++ rest) cell_key) in
      ap (λ (y : List Word). steps e (File false) y) (append_assoc ws (us ++ vs) rest ∙ ap (λ (y : List Word). ws ++ y) (append_assoc us vs rest))
      ∙ r.steps_are e (us ++ (vs ++ rest)) (attributes_left us inits (vs ++ rest) q left)
      ∙ b.steps_are f (vs ++ rest)
      ∙ ignored_text_steps f b.after vs name rest (wires_named ws d cells r) none t r.room;
}

connect_leads : (ws us vs : Line) (d : DesignOf) (cells : List Word) (left right : Bits) (numbers others : List ℕ) (count : ℕ) → Leads ws d cells → IsSignalText d.wires false us left numbers → IsSignalText d.wires false vs right others
    → numbers ++ others ≡ range_with_len d.free count → wire_bits d + (d.free + count) ≤ 2 ^ 20
    → Leads (ws ++ codes "connect" ∷ (us ++ vs)) (record d { connects = d.connects ++ record { left = left; right = right; cells_before = length d.cells } ∷ []; free = d.free + count }) cells
connect_leads ws us vs d cells left right numbers others count r p q are few = record {
  names = r.names;
  distinct = r.distinct;
  room = few;
  steps_are = λ e rest l.
      let m = d.free + count in
      let f = draft d cells in
      let next : Next d.free (numbers ++ others) m = subst (λ (x : List ℕ). Next d.free x m) (sym are) (next_range d.free count m refl) in
      let split = next_split d.free m numbers others next in
      let k = split.0 in
      let lower : k ≤ m = next_rises k m others split.2 in
      let g = free_at f k in
      let h = free_at f m in
      let row : Bits = reverse left in
      let below : Bits = reverse right in
      let named = wires_named ws d cells r in
      let here : IsHere f Left k = record { named = named; kept = λ i. absurd cc; room = omega (arith, few, lower) } in
      let there : IsHere g (Right (reverse row)) m = record { named = named; kept = λ i. absurd cc; room = few } in
      ap (λ (x : List Word). steps e (File false) x) (append_assoc ws (codes "connect" ∷ (us ++ vs)) rest ∙ ap (λ (x : List Word). ws ++ codes "connect" ∷ x) (append_assoc us vs rest))
      ∙ r.steps_are e (codes "connect" ∷ (us ++ (vs ++ rest))) (key_left (codes "connect") (us ++ (vs ++ rest)) connect_begins)
      ∙ one f f Top (Signal Left []) (codes "connect") (us ++ (vs ++ rest)) (connect_step f)
      ∙ text_steps f Left us left numbers k (vs ++ rest) here p split.1
      ∙ right_steps g row vs right others m rest there q split.2
      ∙ ap (λ (x : Bits). steps h (Part (Right x) (below ∷ [])) rest) (reverse-reverse left)
      ∙ same_left h (with_connect h left below) (Part (Right left) (below ∷ [])) Top rest (connect_key h left below) l
      ∙ ap (λ (x : Bits). steps (draft (record d { connects = d.connects ++ record { left = left; right = x; cells_before = length d.cells } ∷ []; free = m }) cells) Top rest) (reverse-reverse right);
}

module_leads : (ws : Line) (d : DesignOf) (cells : List Word) → IsModuleText ws d cells → Leads ws d cells
module_leads ws d cells (name_line name i) = name_leads name i
module_leads ws d cells (parameter us f names name p i) = parameter_leads us f names name (module_leads us f names p) i
module_leads ws d cells (parameter_value us f names name w states p i t) = value_leads us f names name w states (module_leads us f names p) i t
module_leads ws d cells (wire us vs f names x p t none few) = wire_leads us vs f names x (module_leads us f names p) t none few
module_leads ws d cells (cell us vs xs f names inits c count p q t none few) = cell_leads us vs xs f names inits c count (module_leads us f names p) q t none few
module_leads ws d cells (ignored_cell us vs xs f names inits name p q t none) = ignored_leads us vs xs f names inits name (module_leads us f names p) q t none
module_leads ws d cells (connect us vs xs f names left right numbers others count p q t are few) = connect_leads us vs xs f names left right numbers others count (module_leads us f names p) q t are few

-- ---- whole files

pub file_read : (text : List ℕ) (ts : List TokenOf) (ws : Line) (d : DesignOf) → IsFileText ws d → length text ≤ 2 ^ 26 → IsTokens text ts → words_of ts ≡ ws → Reads text d
file_read text ts ws d t few lexes same =
    let r = module_leads t.lines d t.cells t.is_module in
    let start = new_draft [] in
    let f = draft d t.cells in
    record {
      limit = few;
      tokens = ts;
      lexes = lexes;
      cells = t.cells;
      whole =
          ap (λ (x : List Word). steps start (File false) x) (same ∙ t.are)
          ∙ file_steps start false t.before (t.lines ++ codes "end" ∷ t.after) t.is_before
          ∙ r.steps_are start (codes "end" ∷ t.after) (key_left (codes "end") t.after end_begins)
          ∙ one f f Top (File true) (codes "end") t.after (module_ends f)
          ∙ ap (λ (x : List Word). steps f (File true) x) (sym (append-nil t.after))
          ∙ file_steps f true t.after [] t.is_after;
    }
