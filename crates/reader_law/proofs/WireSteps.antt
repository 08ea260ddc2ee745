-- Each text of a wire is read as that wire.
use Rattle.std.proofs.Common.{◌≡◌, ◌≢◌, ℕ, ◌+◌, ◌<◌, ◌≤◌, Bool, true, false, ◌||◌, cond, List, [], ◌∷◌, ◌++◌, map, reverse, take, Option, Some, None, refl, sym, ap, ◌∙◌, append-nil, append_assoc, arith, bytes_eq}
use Rattle.std.specs.Prelude.{codes, ◌==◌, is_some, nat_le, nat_lt, unwrap_or}
use Rattle.std.specs.List.{list_any}
use Rattle.std.proofs.lemmas.Bool.{ne_eqb}
use Rattle.std.proofs.lemmas.Bool.Decides.{nat_tests}
use Rattle.std.proofs.lemmas.List.{take-map}
use Rattle.indexmap.proofs.ReorderLemmas.{map-reverse}
use Rattle.rtlil_constant.specs.Constants.{Word, unsigned}
use Rattle.design_core.specs.Shape.{WireOf}
use Rattle.design_reader.specs.Parts.{AttributesOf, DraftOf, no_attributes}
use Rattle.design_reader.specs.Grammar.{goes_on, line, bits, most_bits, name_step, new_wire, start_digit, start_digits, step, steps, wire_names, with_attribute, word_step}
use Rattle.design_reader.specs.declared.spot.WireOptions.{WireOptions}
use Rattle.design_reader.specs.declared.spot.NumberedOption.TheVariants.{Width, Offset, Input, Output}
use Rattle.design_reader.specs.declared.spot.Spot.TheVariants.{Line as LineSpot, Attribute, Value, WireOption, WireNumber}
use Rattle.reader_law.specs.Printed.{Line, IsIdentifier}
use Rattle.reader_law.specs.ConstantTexts.{State, state_digit, state_digits, IsNumberText}
use Rattle.reader_law.specs.ConstantTexts.State.{Zero, One, Undefined, HighImpedance, DontCare, Marked}
use Rattle.reader_law.specs.WireTexts.{start_of, start_bits, IsAttributes, IsOptions, IsWireText}
use Rattle.reader_law.specs.WireTexts.IsAttributes.{no_attribute, init, other}
use Rattle.reader_law.specs.WireTexts.IsOptions.{no_option, width, offset, offset_below, input, output, upto, signed}
use Rattle.reader_law.proofs.CellWords.{identifier_by}
use Rattle.reader_law.proofs.Steps.{bytes_apart, one, step_named}
use Rattle.reader_law.proofs.ConstantSteps.{number_decimal, number_plain, number_read, value_steps}

-- ---- start digits

state_starts : (s : State) → start_digit (state_digit s) ≡ start_of s
state_starts Zero = refl
state_starts One = refl
state_starts Undefined = refl
state_starts HighImpedance = refl
state_starts DontCare = refl
state_starts Marked = refl

states_start : (states : List State) → map start_digit (state_digits states) ≡ map start_of states
states_start [] = refl
states_start (s ∷ states) = ap (λ (x : Option Bool). x ∷ map start_digit (state_digits states)) (state_starts s) ∙ ap (λ (x : List (Option Bool)). start_of s ∷ x) (states_start states)

init_starts : (n : ℕ) (states : List State) → start_digits n (state_digits states) ≡ start_bits n states
init_starts n states =
    ap (λ (x : List ℕ). map start_digit (take n x)) (sym (map-reverse state_digit states))
    ∙ ap (λ (x : List ℕ). map start_digit x) (take-map state_digit n (reverse states))
    ∙ states_start (take n (reverse states))

inits_start : (n : ℕ) (inits : List (List State)) → map (λ digits. start_digits n digits) (map state_digits inits) ≡ map (start_bits n) inits
inits_start n [] = refl
inits_start n (s ∷ inits) =
    ap (λ (x : List (Option Bool)). x ∷ map (λ digits. start_digits n digits) (map state_digits inits)) (init_starts n s)
    ∙ ap (λ (x : List (List (Option Bool))). start_bits n s ∷ x) (inits_start n inits)

-- ---- attributes

attribute_begins : (d : DraftOf) (a : AttributesOf) → step d (LineSpot a) (codes "attribute") ≡ goes_on d (Attribute a)
unfolding word_step line
attribute_begins d a = refl

init_named : (d : DraftOf) (a : AttributesOf) → step d (Attribute a) (codes "\\init") ≡ goes_on d (Value a true)
unfolding name_step
init_named d a = step_named d (Attribute a) (codes "\\init") (identifier_by (codes "\\init") refl)

other_named : (d : DraftOf) (a : AttributesOf) (name : Word) → IsIdentifier name → name ≢ codes "\\init" → step d (Attribute a) name ≡ goes_on d (Value a false)
unfolding name_step
other_named d a name i h = step_named d (Attribute a) name i ∙ ap (λ (v : Bool). goes_on d (Value a v)) (bytes_apart name (codes "\\init") h)

-- where these attributes lead
pub record Attributed (a : AttributesOf) (ws : Line) (inits : List (List State)) : Type 0 where
  pub after : AttributesOf
  pub inits_are : after.inits ≡ a.inits ++ map state_digits inits
  pub steps_are : (d : DraftOf) (rest : List Word) → steps d (LineSpot a) (ws ++ rest) ≡ steps d (LineSpot after) rest

pub attributed : (a : AttributesOf) (ws : Line) (inits : List (List State)) → IsAttributes ws inits → Attributed a ws inits
attributed a ws inits no_attribute = record { after = a; inits_are = sym (append-nil a.inits); steps_are = λ d rest. refl }
attributed a ws inits (init w states vs more t p) =
    let r = attributed (with_attribute a true (state_digits states)) vs more p in
    record {
      after = r.after;
      inits_are = r.inits_are ∙ append_assoc a.inits (state_digits states ∷ []) (map state_digits more);
      steps_are = λ d rest.
          one d d (LineSpot a) (Attribute a) (codes "attribute") (codes "\\init" ∷ w ∷ (vs ++ rest)) (attribute_begins d a)
          ∙ one d d (Attribute a) (Value a true) (codes "\\init") (w ∷ (vs ++ rest)) (init_named d a)
          ∙ value_steps d a true w states (vs ++ rest) t
          ∙ r.steps_are d rest;
    }
attributed a ws inits (other name w states vs more i h t p) =
    let r = attributed (with_attribute a false (state_digits states)) vs more p in
    record {
      after = r.after;
      inits_are = r.inits_are;
      steps_are = λ d rest.
          one d d (LineSpot a) (Attribute a) (codes "attribute") (name ∷ w ∷ (vs ++ rest)) (attribute_begins d a)
          ∙ one d d (Attribute a) (Value a false) name (w ∷ (vs ++ rest)) (other_named d a name i h)
          ∙ value_steps d a false w states (vs ++ rest) t
          ∙ r.steps_are d rest;
    }

-- ---- options

abbrev options : Option ℕ → Bool → WireOptions
options given is_input = record { width = given; input = is_input }

-- the width that these options give after others
abbrev given_or : Option ℕ → Option ℕ → Option ℕ
given_or None before = before
given_or (Some n) before = Some n

given_alone : (given : Option ℕ) → given_or given None ≡ given
given_alone None = refl
given_alone (Some n) = refl

input_too : (b : Bool) → (b || true) ≡ true
input_too true = refl
input_too false = refl

input_alone : (b : Bool) → (b || false) ≡ b
input_alone true = refl
input_alone false = refl

option_begins : (d : DraftOf) (a : AttributesOf) (o : WireOptions) → (step d (WireOption a o) (codes "offset") ≡ goes_on d (WireNumber a o Offset)) × (step d (WireOption a o) (codes "input") ≡ goes_on d (WireNumber a o Input))
    × (step d (WireOption a o) (codes "output") ≡ goes_on d (WireNumber a o Output)) × (step d (WireOption a o) (codes "upto") ≡ goes_on d (WireOption a o)) × (step d (WireOption a o) (codes "signed") ≡ goes_on d (WireOption a o))
unfolding word_step
option_begins d a o = (refl, refl, refl, refl, refl)

width_begins : (d : DraftOf) (a : AttributesOf) (o : WireOptions) → is_some o.width ≡ false → step d (WireOption a o) (codes "width") ≡ goes_on d (WireNumber a o Width)
unfolding word_step
width_begins d a o none = rw none refl

width_reads : (d : DraftOf) (a : AttributesOf) (o : WireOptions) (w : Word) (n : ℕ) → IsNumberText w n → 0 < n → bits d + n ≤ most_bits → step d (WireNumber a o Width) w ≡ goes_on d (WireOption a (record o { width = Some n }))
unfolding word_step
width_reads d a o w n t some room =
    let p = (number_plain w n t).name in
    let r = number_read w n t in
    let z : (n == 0) ≡ false = ne_eqb n 0 (λ e. omega arith) in
    let fits : nat_le (bits d + n) most_bits ≡ true = grind (arith, nat_tests) in
    rw (p, r, z, fits) refl

unsigned_number : (w : Word) (n : ℕ) → IsNumberText w n → unsigned w ≡ w
unsigned_number w n t =
    let d = number_decimal w n t in
    let plain : (d.head == 45) ≡ false = ne_eqb d.head 45 (λ h. omega (arith, d.figures.0)) in
    ap (λ (x : Word). unsigned x) d.are ∙ ap (λ (v : Bool). cond v d.tail (d.head ∷ d.tail)) plain ∙ sym d.are

offset_reads : (d : DraftOf) (a : AttributesOf) (o : WireOptions) (w : Word) (n : ℕ) → IsNumberText w n → step d (WireNumber a o Offset) w ≡ goes_on d (WireOption a o)
unfolding word_step
offset_reads d a o w n t =
    let p = (number_plain w n t).name in
    let u = unsigned_number w n t in
    let r = number_read w n t in
    rw (p, u, r) refl

below_reads : (d : DraftOf) (a : AttributesOf) (o : WireOptions) (w : Word) (n : ℕ) → IsNumberText w n → step d (WireNumber a o Offset) (codes "-" ++ w) ≡ goes_on d (WireOption a o)
unfolding word_step
below_reads d a o w n t = let r = number_read w n t in rw r refl

input_reads : (d : DraftOf) (a : AttributesOf) (o : WireOptions) (w : Word) (n : ℕ) → IsNumberText w n → step d (WireNumber a o Input) w ≡ goes_on d (WireOption a (record o { input = true }))
unfolding word_step
input_reads d a o w n t = let p = (number_plain w n t).name in let r = number_read w n t in rw (p, r) refl

output_reads : (d : DraftOf) (a : AttributesOf) (o : WireOptions) (w : Word) (n : ℕ) → IsNumberText w n → step d (WireNumber a o Output) w ≡ goes_on d (WireOption a o)
unfolding word_step
output_reads d a o w n t = let p = (number_plain w n t).name in let r = number_read w n t in rw (p, r) refl

options_steps : (d : DraftOf) (a : AttributesOf) (ws : Line) (given : Option ℕ) (is_input : Bool) (before : Option ℕ) (was : Bool) (rest : List Word) → IsOptions ws given is_input → (is_some given ≡ true → before ≡ None) → bits d + unwrap_or given 1 ≤ most_bits
    → steps d (WireOption a (options before was)) (ws ++ rest) ≡ steps d (WireOption a (options (given_or given before) (is_input || was))) rest
options_steps d a ws given is_input before was rest no_option once room = refl
options_steps d a ws given is_input before was rest (width w n vs i t some p) once room =
    let o = options before was in
    let none : before ≡ None = once refl in
    one d d (WireOption a o) (WireNumber a o Width) (codes "width") (w ∷ (vs ++ rest)) (width_begins d a o (ap (λ (x : Option ℕ). is_some x) none))
    ∙ one d d (WireNumber a o Width) (WireOption a (options (Some n) was)) w (vs ++ rest) (width_reads d a o w n t some room)
    ∙ options_steps d a vs None i (Some n) was rest p (λ h. absurd cc) (omega (arith, some, room))
options_steps d a ws given is_input before was rest (offset w n vs g i t p) once room =
    let o = options before was in
    one d d (WireOption a o) (WireNumber a o Offset) (codes "offset") (w ∷ (vs ++ rest)) (option_begins d a o).0
    ∙ one d d (WireNumber a o Offset) (WireOption a o) w (vs ++ rest) (offset_reads d a o w n t)
    ∙ options_steps d a vs g i before was rest p once room
options_steps d a ws given is_input before was rest (offset_below w n vs g i t p) once room =
    let o = options before was in
    one d d (WireOption a o) (WireNumber a o Offset) (codes "offset") ((codes "-" ++ w) ∷ (vs ++ rest)) (option_begins d a o).0
    ∙ one d d (WireNumber a o Offset) (WireOption a o) (codes "-" ++ w) (vs ++ rest) (below_reads d a o w n t)
    ∙ options_steps d a vs g i before was rest p once room
options_steps d a ws given is_input before was rest (input w n vs g i t p) once room =
    let o = options before was in
    one d d (WireOption a o) (WireNumber a o Input) (codes "input") (w ∷ (vs ++ rest)) (option_begins d a o).1
    ∙ one d d (WireNumber a o Input) (WireOption a (options before true)) w (vs ++ rest) (input_reads d a o w n t)
    ∙ options_steps d a vs g i before true rest p once room
    ∙ ap (λ (v : Bool). steps d (WireOption a (options (given_or g before) v)) rest) (input_too i)
options_steps d a ws given is_input before was rest (output w n vs g i t p) once room =
    let o = options before was in
    one d d (WireOption a o) (WireNumber a o Output) (codes "output") (w ∷ (vs ++ rest)) (option_begins d a o).2
    ∙ one d d (WireNumber a o Output) (WireOption a o) w (vs ++ rest) (output_reads d a o w n t)
    ∙ options_steps d a vs g i before was rest p once room
options_steps d a ws given is_input before was rest (upto vs g i p) once room =
    let o = options before was in
    one d d (WireOption a o) (WireOption a o) (codes "upto") (vs ++ rest) (option_begins d a o).3 ∙ options_steps d a vs g i before was rest p once room
options_steps d a ws given is_input before was rest (signed vs g i p) once room =
    let o = options before was in
    one d d (WireOption a o) (WireOption a o) (codes "signed") (vs ++ rest) (option_begins d a o).4 ∙ options_steps d a vs g i before was rest p once room

-- ---- a wire

wire_begins : (d : DraftOf) (a : AttributesOf) → bits d < most_bits → step d (LineSpot a) (codes "wire") ≡ goes_on d (WireOption a (options None false))
unfolding word_step line
wire_begins d a room = let t : nat_lt (bits d) most_bits ≡ true = grind (arith, nat_tests) in rw t refl

abbrev wires_added : DraftOf → List WireOf → DraftOf
wires_added d ws = record d { design = record d.design { wires = d.design.wires ++ ws } }

wire_named : (d : DraftOf) (a : AttributesOf) (o : WireOptions) (name : Word) → IsIdentifier name → list_any (λ n. bytes_eq n name) (wire_names d.design.wires) ≡ false
    → step d (WireOption a o) name ≡ goes_on (wires_added d (new_wire name a o ∷ [])) (LineSpot no_attributes)
unfolding name_step
wire_named d a o name i none = step_named d (WireOption a o) name i ∙ rw none refl

made_wire : (x : WireOf) (n : ℕ) (starts : List (List (Option Bool))) → n ≡ x.width → starts ≡ x.inits → record { name = x.name; width = n; input = x.input; inits = starts } ≡ x
made_wire x n starts e f = rw (e, f) refl

pub wire_words : (ws : Line) (x : WireOf) (rest : List Word) (t : IsWireText ws x) → ws ++ rest ≡ t.attributes ++ codes "wire" ∷ (t.options ++ x.name ∷ rest)
wire_words ws x rest t =
    ap (λ (y : Line). y ++ rest) t.are
    ∙ append_assoc t.attributes (codes "wire" ∷ (t.options ++ x.name ∷ [])) rest
    ∙ ap (λ (y : Line). t.attributes ++ codes "wire" ∷ y) (append_assoc t.options (x.name ∷ []) rest)

pub wire_text_steps : (d : DraftOf) (ws : Line) (x : WireOf) (rest : List Word) → IsWireText ws x → list_any (λ n. bytes_eq n x.name) (wire_names d.design.wires) ≡ false → bits d + x.width ≤ most_bits
    → steps d (LineSpot no_attributes) (ws ++ rest) ≡ steps (wires_added d (x ∷ [])) (LineSpot no_attributes) rest
wire_text_steps d ws x rest t none room =
    let r = attributed no_attributes t.attributes t.inits t.is_attributes in
    let a = r.after in
    let start = options None false in
    let o = options t.given x.input in
    let named = x.name ∷ rest in
    let lines = t.options ++ named in
    let wide : bits d + unwrap_or t.given 1 ≤ most_bits = omega (arith, room, t.bits) in
    let some : bits d < most_bits = omega (arith, room, width_some t.options t.given x.input t.is_options, t.bits) in
    let starts : map (λ digits. start_digits (unwrap_or t.given 1) digits) a.inits ≡ x.inits =
    ap (λ (y : List (List ℕ)). map (λ digits. start_digits (unwrap_or t.given 1) digits) y) r.inits_are
    ∙ inits_start (unwrap_or t.given 1) t.inits ∙ ap (λ (k : ℕ). map (start_bits k) t.inits) (sym t.bits) ∙ sym t.starts in
    ap (λ (y : List Word). steps d (LineSpot no_attributes) y) (wire_words ws x rest t)
    ∙ r.steps_are d (codes "wire" ∷ lines)
    ∙ one d d (LineSpot a) (WireOption a start) (codes "wire") lines (wire_begins d a some)
    ∙ options_steps d a t.options t.given x.input None false named t.is_options (λ h. refl) wide
    ∙ ap (λ (g : Option ℕ). steps d (WireOption a (options g (x.input || false))) named) (given_alone t.given)
    ∙ ap (λ (v : Bool). steps d (WireOption a (options t.given v)) named) (input_alone x.input)
    ∙ one d (wires_added d (new_wire x.name a o ∷ [])) (WireOption a o) (LineSpot no_attributes) x.name rest (wire_named d a o x.name t.name none)
    ∙ ap (λ (y : WireOf). steps (wires_added d (y ∷ [])) (LineSpot no_attributes) rest) (made_wire x (unwrap_or t.given 1) (map (λ digits. start_digits (unwrap_or t.given 1) digits) a.inits) (sym t.bits) starts)
  where
    width_some : (vs : Line) (given : Option ℕ) (is_input : Bool) → IsOptions vs given is_input → 0 < unwrap_or given 1
    width_some vs given is_input no_option = omega arith
    width_some vs given is_input (width w n us i t some p) = some
    width_some vs given is_input (offset w n us g i t p) = width_some us g i p
    width_some vs given is_input (offset_below w n us g i t p) = width_some us g i p
    width_some vs given is_input (input w n us g i t p) = width_some us g i p
    width_some vs given is_input (output w n us g i t p) = width_some us g i p
    width_some vs given is_input (upto us g i p) = width_some us g i p
    width_some vs given is_input (signed us g i p) = width_some us g i p
