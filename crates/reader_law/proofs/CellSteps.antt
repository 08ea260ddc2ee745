-- Each text of a cell is read as that cell.
use Rattle.std.proofs.Common.{◌≡◌, ◌≢◌, ◌⊎◌, ℕ, ◌+◌, ◌-◌, ◌≤◌, Bool, true, false, cond, ◌&&◌, ◌||◌, inl, inr, List, [], ◌∷◌, ◌++◌, map, length, take, drop, reverse, flat_map, Option, Some, None, refl, sym, ap, ◌∙◌, subst, append-nil, append_assoc, arith, bytes_eq}
use Rattle.std.specs.Prelude.{codes, nat_le, unwrap_or}
use Rattle.std.specs.Map.{lookup}
use Rattle.std.specs.List.{AllZip, IsDistinct, find, list_all, list_any}
use Rattle.std.proofs.lemmas.Bool.Decides.{nat_tests}
use Rattle.std.proofs.lemmas.List.{drop_at, drop-drop, length-append, reverse-reverse, take-append-drop}
use Rattle.std.proofs.lemmas.Bool.{leb-true}
use Rattle.std.proofs.lemmas.Slice.Eq.{bytes_eq-Decides}
use Rattle.indexmap.proofs.ReorderLemmas.{map-reverse}
use Rattle.rtlil_constant.specs.Constants.{Word, is_open, open_digits}
use Rattle.cell_table.specs.declared.kind.Kind.{Kind}
use Rattle.cell_table.specs.declared.kind.Kind.TheVariants.{ShiftLeft, ShiftAny, LeftOut, Unknown}
use Rattle.cell_table.specs.declared.kind.LeftOut.TheVariants as leftout
use Rattle.design_core.specs.Names.{parameter_text, port_text}
use Rattle.design_core.specs.Ports.{are_distinct, is_parameter, is_port, names_parameter, parameter_number, port_number}
use Rattle.design_core.specs.Shape.{WireOf, CellOf, wire_bits}
use Rattle.design_core.specs.declared.digit.Digit.{Digit}
use Rattle.design_core.specs.declared.digit.Digit.TheVariants.{Free as FreeDigit}
use Rattle.design_core.specs.declared.names.ParameterName.{ParameterName}
use Rattle.design_core.specs.declared.parts.Parameter.{Parameter}
use Rattle.design_core.specs.declared.parts.Port.{Port}
use Rattle.design_reader.specs.Kinds.{is_ignored, kind_by_form, kind_of, named_kinds}
use Rattle.design_reader.specs.Labels.{known_parameter, parameter_names}
use Rattle.design_reader.specs.Parts.{AttributesOf, CellDraftOf, DraftOf, no_attributes}
use Rattle.design_reader.specs.Grammar.{Outcome, ◌⊳◌, goes_on, most_bits, cell_line, cell_parameter, kept_parameter, line, name_step, named_parameter, numbered_digits, parameter_name, plain_digit, step, steps, takes_free, with_cell, with_parameter, word_step}
use Rattle.design_reader.specs.declared.spot.Target.{Target}
use Rattle.design_reader.specs.declared.spot.Target.TheVariants.{Port as ToPort}
use Rattle.design_reader.specs.declared.spot.Spot.TheVariants.{Line as LineSpot, CellType, CellName, CellLine, CellParameter, CellParameterName, CellParameterValue, Port as PortSpot, Signal, Part}
use Rattle.reader_law.specs.Printed.{Line, IsForeign, IsIdentifier, kind_text, digit_number, digit_numbers, identifier, is_value}
use Rattle.reader_law.specs.ConstantTexts.{State, state_digits, IsConstantText}
use Rattle.reader_law.specs.ConstantTexts.State.{Zero, One, Undefined, HighImpedance, DontCare, Marked}
use Rattle.reader_law.specs.SignalTexts.{IsSignalText}
use Rattle.reader_law.specs.CellTexts.{IsNamedType, IsTypeText, IsForm, IsValueDigit, IsPlainDigit, IsDigitOf, IsOtherParameter, CellBodyOf, IsCellBody, IsApart, IsCellText, IsIgnoredText}
use Rattle.reader_law.specs.CellTexts.IsNamedType.{printed, left_shift, any_shift, memory, gate}
use Rattle.reader_law.specs.CellTexts.IsTypeText.{named as named_type, other as other_type}
use Rattle.reader_law.specs.CellTexts.IsForm.{no_form, signed, real}
use Rattle.reader_law.specs.CellTexts.IsCellBody.{no_lines, parameter, other_parameter, port, foreign_port}
use Rattle.reader_law.proofs.PrintedWords.{both_tests, one_of}
use Rattle.reader_law.proofs.Steps.{bytes_apart, Bits, AreNamed, IsHere, Next, free_at, next_rises, next_split, one, step_named}
use Rattle.reader_law.proofs.CellWords.{IsLeft, bare_back, cell_name_step, connect_begins, end_begins, foreign_step, fresh_name, identifier_by, kept_named, key_left, kind_step, none_before, parameter_identifier, parameter_key, parameter_word, port_begins, port_key, port_step, same_left, type_step, value_same}
use Rattle.reader_law.proofs.ConstantSteps.{constant_plain, states_read}
use Rattle.reader_law.proofs.SignalSteps.{over, text_steps}

-- ---- types

gate_form : (a b : Bool) → a ≡ true → b ≡ true → cond (a && b) (LeftOut leftout.Gate) Unknown ≡ LeftOut leftout.Gate
gate_form a b p q = rw (p, q) refl

gate_kind : (w : Word) → kind_of (codes "$_" ++ (w ++ codes "_")) ≡ LeftOut leftout.Gate
gate_kind w =
    let name : Word = 36 ∷ 95 ∷ (w ++ 95 ∷ []) in
    let long : nat_le 3 (length name) ≡ true = let l = length-append w (95 ∷ []) in grind (arith, nat_tests) in
    let last : drop (length name - 1) name ≡ 95 ∷ [] = drop_at (36 ∷ 95 ∷ w) (95 ∷ []) (length name - 1) (omega (arith, length-append w (95 ∷ []))) in
    gate_form (nat_le 3 (length name)) (bytes_eq (drop (length name - 1) name) (codes "_")) long (ap (λ (x : Word). bytes_eq x (codes "_")) last)

named_reads : (d : DraftOf) (w : Word) (kind : Kind) → IsIdentifier w → IsNamedType w kind → step d CellType w ≡ goes_on d (CellName kind false)
named_reads d w kind i (printed k) = kind_step d k
named_reads d w kind i left_shift = type_step d ShiftLeft (codes "$sshl") false refl refl i
named_reads d w kind i any_shift = type_step d ShiftAny (codes "$shiftx") false refl refl i
named_reads d w kind i (memory v) = type_step d (LeftOut leftout.Memory) (codes "$mem" ++ v) false refl refl i
named_reads d w kind i (gate v) = type_step d (LeftOut leftout.Gate) (codes "$_" ++ (v ++ codes "_")) false (gate_kind v) refl i

-- a row of the reader's list has the printed name of its kind, or one of the other two names
abbrev is_named_row : Word × Kind → Bool
is_named_row r = bytes_eq (kind_text r.1) r.0 || (bytes_eq r.0 (codes "$sshl") || bytes_eq r.0 (codes "$shiftx"))

all_named : list_all is_named_row named_kinds ≡ true
all_named = refl

row_named : (name : Word) (kind : Kind) → is_named_row (name, kind) ≡ true → (k : Kind) × IsNamedType name k
row_named name kind h =
    elim (one_of (bytes_eq (kind_text kind) name) _ h) as (λ _. (k : Kind) × IsNamedType name k) [
      | inl e ↦ (kind, subst (λ (x : Word). IsNamedType x kind) ((bytes_eq-Decides (kind_text kind) name).0 e) (printed kind))
      | inr e ↦ elim (one_of (bytes_eq name (codes "$sshl")) _ e) as (λ _. (k : Kind) × IsNamedType name k) [
        | inl f ↦ (ShiftLeft, subst (λ (x : Word). IsNamedType x ShiftLeft) (sym ((bytes_eq-Decides name (codes "$sshl")).0 f)) left_shift)
        | inr f ↦ (ShiftAny, subst (λ (x : Word). IsNamedType x ShiftAny) (sym ((bytes_eq-Decides name (codes "$shiftx")).0 f)) any_shift)
      ]
    ]

abbrev NotNamed : Word → Type 0
NotNamed w = (kind : Kind) → IsNamedType w kind → ⊥

none_found : (rows : List (Word × Kind)) (w : Word) → list_all is_named_row rows ≡ true → NotNamed w → lookup (λ n. bytes_eq n w) rows ≡ None
none_found [] w all h = refl
none_found ((name, kind) ∷ rows) w all h =
    let k = both_tests (is_named_row (name, kind)) (list_all is_named_row rows) all in
    let r = row_named name kind k.0 in
    let differs : bytes_eq name w ≡ false = bytes_apart name w (λ e. h r.0 (subst (λ (x : Word). IsNamedType x r.0) e r.1)) in
    rw differs (none_found rows w k.1 h)

no_memory : (w : Word) → NotNamed w → bytes_eq (take 4 w) (codes "$mem") ≡ false
no_memory w h =
    bytes_apart (take 4 w) (codes "$mem") (λ e.
    let whole : codes "$mem" ++ drop 4 w ≡ w = ap (λ (x : Word). x ++ drop 4 w) (sym e) ∙ take-append-drop 4 w in
    h (LeftOut leftout.Memory) (subst (λ (x : Word). IsNamedType x (LeftOut leftout.Memory)) whole (memory (drop 4 w))))

no_gate : (w : Word) → NotNamed w → (bytes_eq (take 2 w) (codes "$_") && (nat_le 3 (length w) && bytes_eq (drop (length w - 1) w) (codes "_"))) ≡ false
no_gate w h =
    elim (bytes_eq (take 2 w) (codes "$_") && (nat_le 3 (length w) && bytes_eq (drop (length w - 1) w) (codes "_"))) as (λ (v : Bool). (bytes_eq (take 2 w) (codes "$_") && (nat_le 3 (length w) && bytes_eq (drop (length w - 1) w) (codes "_"))) ≡ v → v ≡ false) [
      | true ↦ λ e.
          let a = both_tests (bytes_eq (take 2 w) (codes "$_")) _ e in
          let b = both_tests (nat_le 3 (length w)) _ a.1 in
          let front : take 2 w ≡ codes "$_" = (bytes_eq-Decides (take 2 w) (codes "$_")).0 a.0 in
          let last : drop (length w - 1) w ≡ codes "_" = (bytes_eq-Decides (drop (length w - 1) w) (codes "_")).0 b.1 in
          let long : 3 ≤ length w = leb-true 3 (length w) b.0 in
          let v = take (length w - 3) (drop 2 w) in
          let place : 2 + (length w - 3) ≡ length w - 1 = omega arith in
          let end : drop (length w - 3) (drop 2 w) ≡ codes "_" = drop-drop (length w - 3) 2 w ∙ ap (λ (n : ℕ). drop n w) place ∙ last in
          let inner : v ++ codes "_" ≡ drop 2 w = ap (λ (x : Word). v ++ x) (sym end) ∙ take-append-drop (length w - 3) (drop 2 w) in
          let whole : codes "$_" ++ (v ++ codes "_") ≡ w = ap (λ (x : Word). x ++ (v ++ codes "_")) (sym front) ∙ ap (λ (x : Word). take 2 w ++ x) inner ∙ take-append-drop 2 w in
          absurd (h (LeftOut leftout.Gate) (subst (λ (x : Word). IsNamedType x (LeftOut leftout.Gate)) whole (gate v)))
      | false ↦ λ e. refl
    ] refl

other_kind : (w : Word) → NotNamed w → kind_of w ≡ Unknown
other_kind w h =
    let none = none_found named_kinds w all_named h in
    let m = no_memory w h in
    let g = no_gate w h in
    ap (λ (o : Option Kind). unwrap_or o (kind_by_form w)) none
    ∙ ap (λ (v : Bool). cond v (LeftOut leftout.Memory) (cond (bytes_eq (take 2 w) (codes "$_") && (nat_le 3 (length w) && bytes_eq (drop (length w - 1) w) (codes "_"))) (LeftOut leftout.Gate) Unknown)) m
    ∙ ap (λ (v : Bool). cond v (LeftOut leftout.Gate) Unknown) g

other_kept : (w : Word) → w ≢ codes "$scopeinfo" → w ≢ codes "$print" → is_ignored w ≡ false
other_kept w p q =
    let a = bytes_apart w (codes "$scopeinfo") p in
    let b = bytes_apart w (codes "$print") q in
    rw (a, b) refl

type_reads : (d : DraftOf) (w : Word) (kind : Kind) → IsIdentifier w → IsTypeText w kind → step d CellType w ≡ goes_on d (CellName kind false)
type_reads d w kind i (named_type v k n) = named_reads d v k i n
type_reads d w kind i (other_type v h p q) = type_step d Unknown v false (other_kind v h) (other_kept v p q) i

-- ---- a parameter's digits

-- digits are read as these, of which the free bits are numbered up to m
record AreDigits (n m : ℕ) (digits : List ℕ) (row : List Digit) : Type 0 where
  digits_are : numbered_digits n digits ≡ row
  count : n + open_digits digits ≡ m

bound_digit : (n m c : ℕ) (digits : List ℕ) (digit : Digit) (row : List Digit) → is_open c ≡ false → digit ≡ plain_digit c → AreDigits n m digits row → AreDigits n m (c ∷ digits) (digit ∷ row)
bound_digit n m c digits digit row o e r =
    let are = r.digits_are in
    record { digits_are = rw (o, are) (ap (λ (x : Digit). x ∷ row) (sym e)); count = rw o r.count }

open_digit : (n m k c : ℕ) (digits : List ℕ) (digit : Digit) (row : List Digit) → is_open c ≡ true → digit ≡ FreeDigit k → Next n (flat_map digit_number (digit ∷ row)) m
    → (Next (n + 1) (flat_map digit_number row) m → AreDigits (n + 1) m digits row) → AreDigits n m (c ∷ digits) (digit ∷ row)
open_digit n m k c digits digit row o e h f =
    let at = subst (λ (x : Digit). Next n (digit_number x ++ flat_map digit_number row) m) e h in
    let r = f at.1 in
    let are = r.digits_are in
    let count = r.count in
    let same : FreeDigit n ≡ digit = ap (λ (x : ℕ). FreeDigit x) (sym at.0) ∙ sym e in
    record { digits_are = rw (o, are) (ap (λ (x : Digit). x ∷ row) same); count = rw o (omega arith) }

value_digits : (n m : ℕ) (states : List State) (row : List Digit) → AllZip IsValueDigit states row → Next n (flat_map digit_number row) m → AreDigits n m (state_digits states) row
value_digits n m [] [] z h = record { digits_are = refl; count = omega arith }
value_digits n m [] (x ∷ row) z h = absurd z
value_digits n m (s ∷ states) [] z h = absurd z
value_digits n m (Zero ∷ states) (x ∷ row) z h =
    bound_digit n m 48 (state_digits states) x row refl z.0 (value_digits n m states row z.1 (subst (λ (y : Digit). Next n (digit_number y ++ flat_map digit_number row) m) z.0 h))
value_digits n m (One ∷ states) (x ∷ row) z h =
    bound_digit n m 49 (state_digits states) x row refl z.0 (value_digits n m states row z.1 (subst (λ (y : Digit). Next n (digit_number y ++ flat_map digit_number row) m) z.0 h))
value_digits n m (Undefined ∷ states) (x ∷ row) z h = open_digit n m z.0.0 120 (state_digits states) x row refl z.0.1 h (λ next. value_digits (n + 1) m states row z.1 next)
value_digits n m (HighImpedance ∷ states) (x ∷ row) z h = open_digit n m z.0.0 122 (state_digits states) x row refl z.0.1 h (λ next. value_digits (n + 1) m states row z.1 next)
value_digits n m (DontCare ∷ states) (x ∷ row) z h = open_digit n m z.0.0 45 (state_digits states) x row refl z.0.1 h (λ next. value_digits (n + 1) m states row z.1 next)
value_digits n m (Marked ∷ states) (x ∷ row) z h =
    bound_digit n m 109 (state_digits states) x row refl z.0 (value_digits n m states row z.1 (subst (λ (y : Digit). Next n (digit_number y ++ flat_map digit_number row) m) z.0 h))

-- digits are read as these, none of which is a free bit
abbrev ArePlain : List ℕ → List Digit → Type 0
ArePlain digits row = (map plain_digit digits ≡ row) × (flat_map digit_number row ≡ [])

plain_more : (c : ℕ) (digits : List ℕ) (digit : Digit) (row : List Digit) → digit ≡ plain_digit c → digit_number (plain_digit c) ≡ [] → ArePlain digits row → ArePlain (c ∷ digits) (digit ∷ row)
plain_more c digits digit row e none r = (
  ap (λ (x : List Digit). plain_digit c ∷ x) r.0 ∙ ap (λ (x : Digit). x ∷ row) (sym e),
  ap (λ (x : Digit). digit_number x ++ flat_map digit_number row) e ∙ ap (λ (x : List ℕ). x ++ flat_map digit_number row) none ∙ r.1,
)

plain_digits : (states : List State) (row : List Digit) → AllZip IsPlainDigit states row → ArePlain (state_digits states) row
plain_digits [] [] z = (refl, refl)
plain_digits [] (x ∷ row) z = absurd z
plain_digits (s ∷ states) [] z = absurd z
plain_digits (Zero ∷ states) (x ∷ row) z = plain_more 48 (state_digits states) x row z.0 refl (plain_digits states row z.1)
plain_digits (One ∷ states) (x ∷ row) z = plain_more 49 (state_digits states) x row z.0 refl (plain_digits states row z.1)
plain_digits (Undefined ∷ states) (x ∷ row) z = plain_more 120 (state_digits states) x row z.0 refl (plain_digits states row z.1)
plain_digits (HighImpedance ∷ states) (x ∷ row) z = plain_more 122 (state_digits states) x row z.0 refl (plain_digits states row z.1)
plain_digits (DontCare ∷ states) (x ∷ row) z = plain_more 45 (state_digits states) x row z.0 refl (plain_digits states row z.1)
plain_digits (Marked ∷ states) (x ∷ row) z = plain_more 109 (state_digits states) x row z.0 refl (plain_digits states row z.1)

-- what a parameter's constant makes
Made : DraftOf → CellDraftOf → Parameter → List State → ℕ → Type 0
Made d c p states m = cell_parameter d c (Some p.name) (state_digits states) ≡ goes_on (free_at d m) (CellLine (with_parameter c p.name p.digits))

value_made : (d : DraftOf) (c : CellDraftOf) (p : Parameter) (states : List State) (m : ℕ) → takes_free p.name ≡ true → AllZip IsValueDigit states (reverse p.digits) → Next d.design.free (digit_numbers p.digits) m
    → wire_bits d.design + m ≤ most_bits → Made d c p states m
unfolding Made
value_made d c p states m e z next room =
    let digits = state_digits states in
    let r = value_digits d.design.free m states (reverse p.digits) z next in
    let a = r.digits_are in
    let b = r.count in
    let fits : nat_le (wire_bits d.design + d.design.free + open_digits digits) most_bits ≡ true = grind (arith, nat_tests) in
    rw (e, fits, a, b) (ap (λ (x : List Digit). goes_on (free_at d m) (CellLine (with_parameter c p.name x))) (reverse-reverse p.digits))

plain_made : (d : DraftOf) (c : CellDraftOf) (p : Parameter) (states : List State) (m : ℕ) → takes_free p.name ≡ false → AllZip IsPlainDigit states (reverse p.digits) → Next d.design.free (digit_numbers p.digits) m → Made d c p states m
unfolding Made
plain_made d c p states m e z next =
    let r = plain_digits states (reverse p.digits) z in
    let same : d.design.free ≡ m = subst (λ (x : List ℕ). Next d.design.free x m) r.1 next in
    let turned : map plain_digit (reverse (state_digits states)) ≡ p.digits = map-reverse plain_digit (state_digits states) ∙ ap (λ (x : List Digit). reverse x) r.0 ∙ reverse-reverse p.digits in
    rw e (ap (λ (x : List Digit). goes_on d (CellLine (with_parameter c p.name x))) turned ∙ ap (λ (k : ℕ). goes_on (free_at d k) (CellLine (with_parameter c p.name p.digits))) same)

parameter_made : (d : DraftOf) (c : CellDraftOf) (p : Parameter) (states : List State) (m : ℕ) → AllZip (IsDigitOf (is_value p.name)) states (reverse p.digits) → Next d.design.free (digit_numbers p.digits) m
    → wire_bits d.design + m ≤ most_bits → Made d c p states m
parameter_made d c p states m z next room =
    elim (is_value p.name) as (λ (v : Bool). is_value p.name ≡ v → AllZip (IsDigitOf v) states (reverse p.digits) → Made d c p states m) [
      | true ↦ λ e y. value_made d c p states m (sym (value_same p.name) ∙ e) y next room
      | false ↦ λ e y. plain_made d c p states m (sym (value_same p.name) ∙ e) y next
    ] refl z

-- ---- a parameter's line

form_steps : (d : DraftOf) (c : CellDraftOf) (form : Line) (name : Word) (ws : List Word) → IsForm form → IsIdentifier name → steps d (CellParameter c) (form ++ name ∷ ws) ≡ (parameter_name d c name ⊳ λ x. steps x.0 x.1 ws)
unfolding word_step name_step
form_steps d c form name ws no_form i = ap (λ (o : Outcome). o ⊳ λ x. steps x.0 x.1 ws) (step_named d (CellParameter c) name i)
form_steps d c form name ws signed i =
    one d d (CellParameter c) (CellParameterName c) (codes "signed") (name ∷ ws) refl ∙ ap (λ (o : Outcome). o ⊳ λ x. steps x.0 x.1 ws) (step_named d (CellParameterName c) name i)
form_steps d c form name ws real i =
    one d d (CellParameter c) (CellParameterName c) (codes "real") (name ∷ ws) refl ∙ ap (λ (o : Outcome). o ⊳ λ x. steps x.0 x.1 ws) (step_named d (CellParameterName c) name i)

value_reads : (d : DraftOf) (c : CellDraftOf) (label : Option ParameterName) (w : Word) (states : List State) → IsConstantText w states → step d (CellParameterValue c label) w ≡ cell_parameter d c label (state_digits states)
unfolding word_step
value_reads d c label w states t = let p = (constant_plain w states t).name in let r = states_read 1 w states (omega arith) t in rw (p, r) refl

line_steps : (d e : DraftOf) (c begun q : CellDraftOf) (label : Option ParameterName) (form : Line) (name w : Word) (states : List State) (ws : List Word) → IsForm form → IsIdentifier name → IsConstantText w states
    → parameter_name d c name ≡ goes_on d (CellParameterValue begun label) → cell_parameter d begun label (state_digits states) ≡ goes_on e (CellLine q)
    → steps d (CellLine c) (codes "parameter" ∷ (form ++ name ∷ w ∷ ws)) ≡ steps e (CellLine q) ws
line_steps d e c begun q label form name w states ws f i t named made =
    one d d (CellLine c) (CellParameter c) (codes "parameter") (form ++ name ∷ w ∷ ws) (parameter_key d c)
    ∙ form_steps d c form name (w ∷ ws) f i
    ∙ ap (λ (o : Outcome). o ⊳ λ x. steps x.0 x.1 (w ∷ ws)) named
    ∙ one d e (CellParameterValue begun label) (CellLine q) w ws (value_reads d begun label w states t ∙ made)

-- the table names no parameter of that name for the type
found_same : (names : List ParameterName) (name : Word) (p : ParameterName) → find (λ q. bytes_eq (parameter_text q) name) names ≡ Some p → parameter_text p ≡ name
found_same [] name p h = absurd cc
found_same (q ∷ names) name p h =
    elim (bytes_eq (parameter_text q) name) as (λ (v : Bool). bytes_eq (parameter_text q) name ≡ v → cond v (Some q) (find (λ r. bytes_eq (parameter_text r) name) names) ≡ Some p → parameter_text p ≡ name) [
      | true ↦ λ b e. let same : q ≡ p = cc in subst (λ (r : ParameterName). parameter_text r ≡ name) same ((bytes_eq-Decides (parameter_text q) name).0 b)
      | false ↦ λ b e. found_same names name p e
    ] refl h

not_kept : (kind : Kind) (name : Word) → IsOtherParameter kind name → kept_parameter kind (known_parameter name) ≡ None
not_kept kind name o = by (known_parameter name) refl
  where
    by : (found : Option ParameterName) → known_parameter name ≡ found → kept_parameter kind found ≡ None
    by None e = refl
    by (Some p) e =
        elim (names_parameter kind p) as (λ (v : Bool). names_parameter kind p ≡ v → cond v (Some p) None ≡ None) [
          | true ↦ λ n. absurd (o.other p n (found_same parameter_names name p e))
          | false ↦ λ n. refl
        ] refl

other_named : (d : DraftOf) (c : CellDraftOf) (name : Word) → IsOtherParameter c.cell.kind name → list_any (λ n. bytes_eq n name) c.others ≡ false
    → parameter_name d c (identifier name) ≡ goes_on d (CellParameterValue (named_parameter c name None) None)
other_named d c name o none =
    let a = bare_back name o.shape in
    let b = not_kept c.cell.kind name o in
    rw (a, b, none) refl

-- ---- the lines of a cell

abbrev cell_of : Bool → Kind → Word → CellBodyOf → CellDraftOf
cell_of ignored kind name b = record { cell = record { kind = kind; name = name; parameters = b.parameters; ports = b.ports; foreign = b.foreign }; others = b.others; ignored = ignored }

-- these lines after those
abbrev joined : CellBodyOf → CellBodyOf → CellBodyOf
joined a b = record { parameters = a.parameters ++ b.parameters; ports = a.ports ++ b.ports; foreign = a.foreign ++ b.foreign; others = a.others ++ b.others; numbers = b.numbers }

-- where these lines lead, in a cell that is ignored only if none of their bits is free
record Leads (wires : List WireOf) (kind : Kind) (ws : Line) (b : CellBodyOf) : Type 0 where
  left : (rest : List Word) → IsLeft rest → IsLeft (ws ++ rest)
  steps_are : (i : Bool) (d : DraftOf) (name : Word) (a : CellBodyOf) (m : ℕ) (rest : List Word) → (i ≡ true → d.design.free ≡ m) → IsLeft rest → AreNamed wires → IsApart (joined a b) → Next d.design.free b.numbers m → wire_bits (over wires d).design + m ≤ most_bits
      → steps (over wires d) (CellLine (cell_of i kind name a)) (ws ++ rest) ≡ steps (free_at (over wires d) m) (CellLine (cell_of i kind name (joined a b))) rest

no_lines_lead : (wires : List WireOf) (kind : Kind) → Leads wires kind [] (record { parameters = []; ports = []; foreign = []; others = []; numbers = [] })
no_lines_lead wires kind = record {
  left = λ rest l. l;
  steps_are = λ i d name a m rest q l n h next room.
      ap (λ (k : ℕ). steps (free_at (over wires d) k) (CellLine (cell_of i kind name a)) rest) next
      ∙ ap (λ (x : List Parameter). steps (free_at (over wires d) m) (CellLine (cell_of i kind name (record a { parameters = x }))) rest) (sym (append-nil a.parameters))
      ∙ ap (λ (x : List Port). steps (free_at (over wires d) m) (CellLine (cell_of i kind name (record a { parameters = a.parameters ++ []; ports = x }))) rest) (sym (append-nil a.ports))
      ∙ ap (λ (x : List Word). steps (free_at (over wires d) m) (CellLine (cell_of i kind name (record a { parameters = a.parameters ++ []; ports = a.ports ++ []; foreign = x }))) rest) (sym (append-nil a.foreign))
      ∙ ap (λ (x : List Word). steps (free_at (over wires d) m) (CellLine (cell_of i kind name (record a { parameters = a.parameters ++ []; ports = a.ports ++ []; foreign = a.foreign ++ []; others = x }))) rest) (sym (append-nil a.others));
}

parameter_leads : (wires : List WireOf) (kind : Kind) (form : Line) (p : Parameter) (w : Word) (states : List State) (ws : Line) (b : CellBodyOf) → IsForm form → names_parameter kind p.name ≡ true → IsConstantText w states
    → AllZip (IsDigitOf (is_value p.name)) states (reverse p.digits) → Leads wires kind ws b
    → Leads wires kind (codes "parameter" ∷ (form ++ (92 ∷ parameter_text p.name) ∷ w ∷ ws)) (record b { parameters = p ∷ b.parameters; numbers = digit_numbers p.digits ++ b.numbers })
unfolding Made
parameter_leads wires kind form p w states ws b f known t z leads = record {
  left = λ rest l. key_left (codes "parameter") ((form ++ (92 ∷ parameter_text p.name) ∷ w ∷ ws) ++ rest) parameter_word;
  steps_are = λ i d name a m rest q l n h next room.
      let e = over wires d in
      let c = cell_of i kind name a in
      let split = next_split d.design.free m (digit_numbers p.digits) b.numbers next in
      let k = split.0 in
      let lower : k ≤ m = next_rises k m b.numbers split.2 in
      let upper : d.design.free ≤ k = next_rises d.design.free k (digit_numbers p.digits) split.1 in
      let none : list_any (λ x. is_parameter x.name p.name) a.parameters ≡ false = none_before (λ (q : Parameter). parameter_number q.name) a.parameters p b.parameters h.one_parameter in
      let more : CellBodyOf = record a { parameters = a.parameters ++ p ∷ [] } in
      let whole : (a.parameters ++ p ∷ []) ++ b.parameters ≡ a.parameters ++ p ∷ b.parameters = append_assoc a.parameters (p ∷ []) b.parameters in
      let apart : IsApart (joined more b) = record {
        one_parameter = subst (λ (x : List Parameter). are_distinct (λ q. parameter_number q.name) x ≡ true) (sym whole) h.one_parameter;
        one_port = h.one_port;
        one_foreign = h.one_foreign;
        one_other = h.one_other;
      } in
      let made : Made e c p states k = parameter_made e c p states k z split.1 (omega (arith, room, lower)) in
      ap (λ (x : List Word). steps e (CellLine c) (codes "parameter" ∷ x)) (append_assoc form ((92 ∷ parameter_text p.name) ∷ w ∷ ws) rest)
      ∙ line_steps e (free_at e k) c c (cell_of i kind name more) (Some p.name) form (92 ∷ parameter_text p.name) w states (ws ++ rest) f (identifier_by (92 ∷ parameter_text p.name) (parameter_identifier p.name).0) t (kept_named e c p.name known none) made
      ∙ leads.steps_are i (free_at d k) name more m rest (λ g. omega (arith, q g, lower, upper)) l n apart split.2 room
      ∙ ap (λ (x : List Parameter). steps (free_at e m) (CellLine (cell_of i kind name (record (joined a b) { parameters = x }))) rest) whole;
}

other_leads : (wires : List WireOf) (kind : Kind) (form : Line) (other w : Word) (states : List State) (ws : Line) (b : CellBodyOf) → IsForm form → IsOtherParameter kind other → IsConstantText w states → Leads wires kind ws b
    → Leads wires kind (codes "parameter" ∷ (form ++ identifier other ∷ w ∷ ws)) (record b { others = other ∷ b.others })
other_leads wires kind form other w states ws b f o t leads = record {
  left = λ rest l. key_left (codes "parameter") ((form ++ identifier other ∷ w ∷ ws) ++ rest) parameter_word;
  steps_are = λ i d name a m rest q l n h next room.
      let e = over wires d in
      let c = cell_of i kind name a in
      let more : CellBodyOf = record a { others = a.others ++ other ∷ [] } in
      let whole : (a.others ++ other ∷ []) ++ b.others ≡ a.others ++ other ∷ b.others = append_assoc a.others (other ∷ []) b.others in
      let apart : IsApart (joined more b) = record {
        one_parameter = h.one_parameter;
        one_port = h.one_port;
        one_foreign = h.one_foreign;
        one_other = subst (λ (x : List Word). IsDistinct bytes_eq x) (sym whole) h.one_other;
      } in
      ap (λ (x : List Word). steps e (CellLine c) (codes "parameter" ∷ x)) (append_assoc form (identifier other ∷ w ∷ ws) rest)
      ∙ line_steps e e c (cell_of i kind name more) (cell_of i kind name more) None form (identifier other) w states (ws ++ rest) f o.word t (other_named e c other o (fresh_name a.others other b.others h.one_other)) refl
      ∙ leads.steps_are i d name more m rest q l n apart next room
      ∙ ap (λ (x : List Word). steps (free_at e m) (CellLine (cell_of i kind name (record (joined a b) { others = x }))) rest) whole;
}

port_leads : (wires : List WireOf) (kind : Kind) (p : Port) (numbers : List ℕ) (us ws : Line) (b : CellBodyOf) → IsSignalText wires false us p.signal numbers → Leads wires kind ws b
    → Leads wires kind (codes "connect" ∷ (92 ∷ port_text p.name) ∷ (us ++ ws)) (record b { ports = p ∷ b.ports; numbers = numbers ++ b.numbers })
port_leads wires kind p numbers us ws b text leads = record {
  left = λ rest l. key_left (codes "connect") ((92 ∷ port_text p.name) ∷ (us ++ ws) ++ rest) connect_begins;
  steps_are = λ i d name a m rest q l n h next room.
      let e = over wires d in
      let c = cell_of i kind name a in
      let t : Target = ToPort c (Some p.name) in
      let row : Bits = reverse p.signal in
      let split = next_split d.design.free m numbers b.numbers next in
      let k = split.0 in
      let lower : k ≤ m = next_rises k m b.numbers split.2 in
      let upper : d.design.free ≤ k = next_rises d.design.free k numbers split.1 in
      let none : list_any (λ x. is_port x.name p.name) a.ports ≡ false = none_before (λ (q : Port). port_number q.name) a.ports p b.ports h.one_port in
      let more : CellBodyOf = record a { ports = a.ports ++ p ∷ [] } in
      let whole : (a.ports ++ p ∷ []) ++ b.ports ≡ a.ports ++ p ∷ b.ports = append_assoc a.ports (p ∷ []) b.ports in
      let apart : IsApart (joined more b) = record {
        one_parameter = h.one_parameter;
        one_port = subst (λ (x : List Port). are_distinct (λ q. port_number q.name) x ≡ true) (sym whole) h.one_port;
        one_foreign = h.one_foreign;
        one_other = h.one_other;
      } in
      let here : IsHere e t k = record { named = n; kept = λ g. omega (arith, q g, lower, upper); room = omega (arith, room, lower) } in
      one e e (CellLine c) (PortSpot c) (codes "connect") ((92 ∷ port_text p.name) ∷ ((us ++ ws) ++ rest)) (port_begins e c)
      ∙ one e e (PortSpot c) (Signal t []) (92 ∷ port_text p.name) ((us ++ ws) ++ rest) (port_step e c p.name none)
      ∙ ap (λ (x : List Word). steps e (Signal t []) x) (append_assoc us ws rest)
      ∙ text_steps e t us p.signal numbers k (ws ++ rest) here text split.1
      ∙ same_left (free_at e k) (free_at e k) (Part t (row ∷ [])) (CellLine (cell_of i kind name (record a { ports = a.ports ++ record { name = p.name; signal = reverse row } ∷ [] }))) (ws ++ rest) (port_key (free_at e k) c (Some p.name) row) (leads.left rest l)
      ∙ ap (λ (x : Bits). steps (free_at e k) (CellLine (cell_of i kind name (record a { ports = a.ports ++ record { name = p.name; signal = x } ∷ [] }))) (ws ++ rest)) (reverse-reverse p.signal)
      ∙ leads.steps_are i (free_at d k) name more m rest (λ g. omega (arith, q g, lower, upper)) l n apart split.2 room
      ∙ ap (λ (x : List Port). steps (free_at e m) (CellLine (cell_of i kind name (record (joined a b) { ports = x }))) rest) whole;
}

foreign_leads : (wires : List WireOf) (kind : Kind) (other : Word) (signal : Bits) (numbers : List ℕ) (us ws : Line) (b : CellBodyOf) → IsForeign other → IsSignalText wires false us signal numbers → Leads wires kind ws b
    → Leads wires kind (codes "connect" ∷ identifier other ∷ (us ++ ws)) (record b { foreign = other ∷ b.foreign; numbers = numbers ++ b.numbers })
foreign_leads wires kind other signal numbers us ws b f text leads = record {
  left = λ rest l. key_left (codes "connect") (identifier other ∷ (us ++ ws) ++ rest) connect_begins;
  steps_are = λ i d name a m rest q l n h next room.
      let e = over wires d in
      let c = cell_of i kind name a in
      let row : Bits = reverse signal in
      let split = next_split d.design.free m numbers b.numbers next in
      let k = split.0 in
      let lower : k ≤ m = next_rises k m b.numbers split.2 in
      let upper : d.design.free ≤ k = next_rises d.design.free k numbers split.1 in
      let more : CellBodyOf = record a { foreign = a.foreign ++ other ∷ [] } in
      let t : Target = ToPort (cell_of i kind name more) None in
      let whole : (a.foreign ++ other ∷ []) ++ b.foreign ≡ a.foreign ++ other ∷ b.foreign = append_assoc a.foreign (other ∷ []) b.foreign in
      let apart : IsApart (joined more b) = record {
        one_parameter = h.one_parameter;
        one_port = h.one_port;
        one_foreign = subst (λ (x : List Word). IsDistinct bytes_eq x) (sym whole) h.one_foreign;
        one_other = h.one_other;
      } in
      let here : IsHere e t k = record { named = n; kept = λ g. omega (arith, q g, lower, upper); room = omega (arith, room, lower) } in
      one e e (CellLine c) (PortSpot c) (codes "connect") (identifier other ∷ ((us ++ ws) ++ rest)) (port_begins e c)
      ∙ one e e (PortSpot c) (Signal t []) (identifier other) ((us ++ ws) ++ rest) (foreign_step e c other f (fresh_name a.foreign other b.foreign h.one_foreign))
      ∙ ap (λ (x : List Word). steps e (Signal t []) x) (append_assoc us ws rest)
      ∙ text_steps e t us signal numbers k (ws ++ rest) here text split.1
      ∙ same_left (free_at e k) (free_at e k) (Part t (row ∷ [])) (CellLine (cell_of i kind name more)) (ws ++ rest) (port_key (free_at e k) (cell_of i kind name more) None row) (leads.left rest l)
      ∙ leads.steps_are i (free_at d k) name more m rest (λ g. omega (arith, q g, lower, upper)) l n apart split.2 room
      ∙ ap (λ (x : List Word). steps (free_at e m) (CellLine (cell_of i kind name (record (joined a b) { foreign = x }))) rest) whole;
}

body_leads : (wires : List WireOf) (kind : Kind) (ws : Line) (b : CellBodyOf) → IsCellBody wires kind ws b → Leads wires kind ws b
body_leads wires kind ws b no_lines = no_lines_lead wires kind
body_leads wires kind ws b (parameter form p w states vs a f known t z body) = parameter_leads wires kind form p w states vs a f known t z (body_leads wires kind vs a body)
body_leads wires kind ws b (other_parameter form name w states vs a f o t body) = other_leads wires kind form name w states vs a f o t (body_leads wires kind vs a body)
body_leads wires kind ws b (port p numbers us vs a text body) = port_leads wires kind p numbers us vs a text (body_leads wires kind vs a body)
body_leads wires kind ws b (foreign_port name signal numbers us vs a f text body) = foreign_leads wires kind name signal numbers us vs a f text (body_leads wires kind vs a body)

-- ---- a cell

-- with one more cell, and this many free bits
abbrev cell_added : DraftOf → CellOf → ℕ → DraftOf
cell_added d c m = record { design = record d.design { cells = d.design.cells ++ c ∷ []; free = m }; cells = d.cells ++ c.name ∷ [] }

cell_begins : (d : DraftOf) (a : AttributesOf) → step d (LineSpot a) (codes "cell") ≡ goes_on d CellType
unfolding word_step line
cell_begins d a = refl

cell_ends : (d : DraftOf) (c : CellDraftOf) → step d (CellLine c) (codes "end") ≡ goes_on (cond c.ignored d (with_cell d c.cell)) (LineSpot no_attributes)
unfolding word_step cell_line
cell_ends d c = refl

-- from the word of the type up to the end
type_steps : (d : DraftOf) (a : AttributesOf) (i : Bool) (kind : Kind) (type_word name : Word) (lines : Line) (b : CellBodyOf) (m : ℕ) (rest : List Word) → AreNamed d.design.wires → list_any (λ n. bytes_eq n name) d.cells ≡ false
    → step d CellType type_word ≡ goes_on d (CellName kind i) → IsIdentifier name → IsCellBody d.design.wires kind lines b → IsApart b → (i ≡ true → d.design.free ≡ m) → Next d.design.free b.numbers m → wire_bits d.design + m ≤ most_bits
    → steps d (LineSpot a) ((codes "cell" ∷ type_word ∷ name ∷ (lines ++ codes "end" ∷ [])) ++ rest)
    ≡ steps (free_at (record d { cells = d.cells ++ name ∷ [] }) m) (CellLine (cell_of i kind name b)) (codes "end" ∷ rest)
type_steps d a i kind type_word name lines b m rest named none reads is body apart q next room =
    let begun = record d { cells = d.cells ++ name ∷ [] } in
    let start : CellBodyOf = record { parameters = []; ports = []; foreign = []; others = []; numbers = [] } in
    let ending = codes "end" ∷ rest in
    ap (λ (x : List Word). steps d (LineSpot a) (codes "cell" ∷ type_word ∷ name ∷ x)) (append_assoc lines (codes "end" ∷ []) rest)
    ∙ one d d (LineSpot a) CellType (codes "cell") (type_word ∷ name ∷ (lines ++ ending)) (cell_begins d a)
    ∙ one d d CellType (CellName kind i) type_word (name ∷ (lines ++ ending)) reads
    ∙ one d begun (CellName kind i) (CellLine (cell_of i kind name start)) name (lines ++ ending) (cell_name_step d kind i name is none)
    ∙ (body_leads d.design.wires kind lines b body).steps_are i begun name start m ending q (key_left (codes "end") rest end_begins) named apart next room

pub cell_text_steps : (d : DraftOf) (a : AttributesOf) (ws : Line) (c : CellOf) (numbers : List ℕ) (m : ℕ) (rest : List Word) → AreNamed d.design.wires → list_any (λ n. bytes_eq n c.name) d.cells ≡ false
    → IsCellText d.design.wires ws c numbers → Next d.design.free numbers m → wire_bits d.design + m ≤ most_bits
    → steps d (LineSpot a) (ws ++ rest) ≡ steps (cell_added d c m) (LineSpot no_attributes) rest
cell_text_steps d a ws c numbers m rest named none t next room =
    let said : CellBodyOf = record { parameters = c.parameters; ports = c.ports; foreign = c.foreign; others = t.others; numbers = numbers } in
    let f = free_at (record d { cells = d.cells ++ c.name ∷ [] }) m in
    ap (λ (x : Line). steps d (LineSpot a) (x ++ rest)) t.are
    ∙ type_steps d a false c.kind t.type_word c.name t.lines said m rest named none (type_reads d t.type_word c.kind t.type_name t.is_type) t.name t.body t.apart (λ h. absurd cc) next room
    ∙ one f (cell_added d c m) (CellLine (cell_of false c.kind c.name said)) (LineSpot no_attributes) (codes "end") rest (cell_ends f (cell_of false c.kind c.name said))

ignored_reads : (d : DraftOf) (w : Word) → (w ≡ codes "$scopeinfo") ⊎ (w ≡ codes "$print") → step d CellType w ≡ goes_on d (CellName Unknown true)
ignored_reads d w (inl e) = subst (λ (x : Word). step d CellType x ≡ goes_on d (CellName Unknown true)) (sym e) (type_step d Unknown (codes "$scopeinfo") true refl refl (identifier_by (codes "$scopeinfo") refl))
ignored_reads d w (inr e) = subst (λ (x : Word). step d CellType x ≡ goes_on d (CellName Unknown true)) (sym e) (type_step d Unknown (codes "$print") true refl refl (identifier_by (codes "$print") refl))

pub ignored_text_steps : (d : DraftOf) (a : AttributesOf) (ws : Line) (name : Word) (rest : List Word) → AreNamed d.design.wires → list_any (λ n. bytes_eq n name) d.cells ≡ false → IsIgnoredText d.design.wires ws name
    → wire_bits d.design + d.design.free ≤ most_bits → steps d (LineSpot a) (ws ++ rest) ≡ steps (record d { cells = d.cells ++ name ∷ [] }) (LineSpot no_attributes) rest
ignored_text_steps d a ws name rest named none t room =
    let begun = record d { cells = d.cells ++ name ∷ [] } in
    let free = d.design.free in
    let next : Next free t.said.numbers free = subst (λ (x : List ℕ). Next free x free) (sym t.none_free) refl in
    ap (λ (x : Line). steps d (LineSpot a) (x ++ rest)) t.are
    ∙ type_steps d a true Unknown t.type_word name t.lines t.said free rest named none (ignored_reads d t.type_word t.is_ignored) t.is_name t.body t.apart (λ h. refl) next room
    ∙ one begun begun (CellLine (cell_of true Unknown name t.said)) (LineSpot no_attributes) (codes "end") rest (cell_ends begun (cell_of true Unknown name t.said))
