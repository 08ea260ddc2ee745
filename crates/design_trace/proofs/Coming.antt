-- A trace file that is given piece by piece.
use Rattle.std.proofs.Common.{◌≡◌, ◌∙◌, ◌+◌, ◌-◌, ◌<◌, ◌≤◌, ◌==◌, ℕ, Bool, false, List, [], ◌∷◌, ◌++◌, zero, suc, take, drop, set, map, length, get_or, sym, ap, arith, append_assoc, take-append-drop}
use Rattle.std.specs.Prelude.{codes, if◌then◌else◌}
use Rattle.std.specs.Fmt.{decimal}
use Rattle.std.specs.List.{enumerate_from, flat_map, sum_by}
use Rattle.std.proofs.lemmas.List.{append-nil, drop-drop, drop_more, length-drop, reverse-append, take_more, take_more_set, take_rest, get_or-drop}
use Rattle.std.proofs.lemmas.List.Sums.{sum_by-drop_more}
use Rattle.std.proofs.lemmas.Bool.{ne_eqb}
use Rattle.std.proofs.Math.ListN.{drop_of_length-le}
use Rattle.sby_bits.specs.Rows.{Row}
use Rattle.design_core.specs.Shape.{DesignOf, WireOf}
use Rattle.design_trace.specs.Trace.{digit, value_text}
use Rattle.design_trace.specs.Changes.{change_line, change_lines, declaration, head_end, identifier, name_end, scope, time_line, vcd, vcd_cycles_from}
use Rattle.design_meaning.specs.Runs.{IsShownOf}
use Rattle.design_core.specs.Shape.{wire_bits}
use Rattle.design_trace.specs.declared.vcd_lines.Place.{Place}
use Rattle.design_trace.specs.Coming.{changes_text, declarations_text, head_end_text, text_from, times_text}

-- what the first of two parts gives
pub first_given : (x y taken rest : List ℕ) → x ≡ taken ++ rest → x ++ y ≡ taken ++ (rest ++ y)
first_given x y taken rest e = ap (λ (t : List ℕ). t ++ y) e ∙ append_assoc taken rest y

-- what the second gives where the first gives nothing
pub second_given : (x rest y later buffer : List ℕ) (count room : ℕ) → x ≡ rest → (0 < room → x ≡ []) → count ≤ room → y ≡ take count buffer ++ later
    → x ++ y ≡ take count buffer ++ (rest ++ later)
second_given x rest y later buffer zero room same none fits e = ap (λ (t : List ℕ). t ++ y) same ∙ ap (λ (t : List ℕ). rest ++ t) e
second_given x rest y later buffer (suc count) room same none fits e =
    let over : x ≡ [] = none (omega arith) in
    ap (λ (t : List ℕ). t ++ y) over ∙ e ∙ ap (λ (t : List ℕ). take (suc count) buffer ++ (t ++ later)) (sym over ∙ same)

-- what a part of some bytes gives
pub part_given : (bytes taken : List ℕ) (given count : ℕ) → taken ≡ take count (take (length bytes - given) (drop given bytes)) → drop given bytes ≡ taken ++ drop (given + count) bytes
part_given bytes taken given count e =
    sym (take-append-drop count (drop given bytes))
    ∙ ap (λ (xs : List ℕ). take count (drop given bytes) ++ xs) (drop-drop count given bytes)
    ∙ ap (λ (xs : List ℕ). xs ++ drop (given + count) bytes) (sym (e ∙ ap (λ (xs : List ℕ). take count xs) (take_rest bytes given)))

-- one bit more
value_more : (xs : Row) (m : ℕ) → m < length xs → value_text (take (m + 1) xs) ≡ digit (get_or xs m false) ∷ value_text (take m xs)
value_more xs m lt =
    ap value_text (take_more xs m false lt)
    ∙ ap (λ (r : Row). map digit r) (reverse-append (take m xs) (get_or xs m false ∷ []))

pub bits_more : (row : Row) (low count place left : ℕ) (buffer : List ℕ) (bit : Bool) → place < length buffer → left + 1 + place ≡ count → low + count ≤ length row
    → bit ≡ get_or row (low + left) false → value_text (take count (drop low row)) ≡ take place buffer ++ value_text (take (count - place) (drop low row))
    → value_text (take count (drop low row)) ≡ take (place + 1) (set buffer place (digit bit)) ++ value_text (take (count - (place + 1)) (drop low row))
bits_more row low count place left buffer bit lt sum within is before =
    let there : left < length (drop low row) = let n = length-drop low row in omega arith in
    let m : count - place ≡ left + 1 = omega arith in
    let l : left ≡ count - (place + 1) = omega arith in
    before
    ∙ ap (λ (n : ℕ). take place buffer ++ value_text (take n (drop low row))) m
    ∙ ap (λ (t : List ℕ). take place buffer ++ t) (value_more (drop low row) left there ∙ ap (λ (b : Bool). digit b ∷ value_text (take left (drop low row))) (get_or-drop low row left false ∙ sym is))
    ∙ sym (append_assoc (take place buffer) (digit bit ∷ []) (value_text (take left (drop low row))))
    ∙ ap (λ (t : List ℕ). t ++ value_text (take left (drop low row))) (sym (take_more_set buffer place (digit bit) lt))
    ∙ ap (λ (n : ℕ). take (place + 1) (set buffer place (digit bit)) ++ value_text (take n (drop low row))) l

-- ---- the lines

pub scope_text : (d : DesignOf) (rows : List Row) → (codes "$scope module " ++ name_end d.name) ++ declarations_text d rows 0 ≡ vcd d rows
scope_text d rows =
    let wires : List ℕ = flat_map declaration (enumerate_from 0 d.wires) in
    ap (λ (t : List ℕ). scope d.name ++ t) (sym (append_assoc wires head_end (times_text d rows 0)))
    ∙ sym (append_assoc (scope d.name) (wires ++ head_end) (times_text d rows 0))

abbrev before_name : ℕ → ℕ → List ℕ
before_name width w = codes "$var wire " ++ (decimal width ++ (32 ∷ (identifier w ++ 32 ∷ [])))

declared_parts : (w : ℕ) (x : WireOf) → before_name x.width w ++ name_end x.name ≡ declaration (w, x)
declared_parts w x =
    append_assoc (codes "$var wire ") (decimal x.width ++ (32 ∷ (identifier w ++ 32 ∷ []))) (name_end x.name)
    ∙ ap (λ (t : List ℕ). codes "$var wire " ++ t) (append_assoc (decimal x.width) (32 ∷ (identifier w ++ 32 ∷ [])) (name_end x.name)
    ∙ ap (λ (t : List ℕ). decimal x.width ++ (32 ∷ t)) (append_assoc (identifier w) (32 ∷ []) (name_end x.name)))

pub declaration_text : (d : DesignOf) (rows : List Row) (w : ℕ) (x : WireOf) → w < length d.wires → x ≡ get_or d.wires w x
    → (before_name x.width w ++ name_end x.name) ++ declarations_text d rows (w + 1) ≡ declarations_text d rows w
declaration_text d rows w x lt is =
    ap (λ (t : List ℕ). t ++ declarations_text d rows (w + 1)) (declared_parts w x)
    ∙ sym (append_assoc (declaration (w, x)) (flat_map declaration (enumerate_from (w + 1) (drop (w + 1) d.wires))) (head_end_text d rows))
    ∙ sym (ap (λ (xs : List WireOf). flat_map declaration (enumerate_from w xs) ++ head_end_text d rows)
    (drop_more d.wires w x lt ∙ ap (λ (y : WireOf). y ∷ drop (w + 1) d.wires) (sym is)))

pub declarations_over : (d : DesignOf) (rows : List Row) (w : ℕ) → length d.wires ≤ w → head_end_text d rows ≡ declarations_text d rows w
declarations_over d rows w le = sym (ap (λ (xs : List WireOf). flat_map declaration (enumerate_from w xs) ++ head_end_text d rows) (drop_of_length-le d.wires le))

pub cycle_text : (d : DesignOf) (rows : List Row) (k : ℕ) → k < length rows → time_line k ++ changes_text d rows k 0 0 ≡ times_text d rows k
cycle_text d rows k lt =
    sym (ap (λ (rs : List Row). vcd_cycles_from d k rs ++ time_line (length rows)) (drop_more rows k [] lt)
    ∙ append_assoc (time_line k ++ change_lines 0 d.wires (get_or rows k [])) (vcd_cycles_from d (k + 1) (drop (k + 1) rows)) (time_line (length rows))
    ∙ append_assoc (time_line k) (change_lines 0 d.wires (get_or rows k [])) (times_text d rows (k + 1)))

pub last_text : (d : DesignOf) (rows : List Row) (k : ℕ) → k ≤ length rows → length rows ≤ k → time_line k ++ [] ≡ times_text d rows k
last_text d rows k le ge =
    let same : k ≡ length rows = omega arith in
    append-nil (time_line k) ∙ ap time_line same ∙ sym (ap (λ (rs : List Row). vcd_cycles_from d k rs ++ time_line (length rows)) (drop_of_length-le rows ge))

-- the first line of what is left of a cycle
line_here : (wires : List WireOf) (w low : ℕ) (x : WireOf) (row : Row) → w < length wires → x ≡ get_or wires w x
    → change_lines w (drop w wires) (drop low row) ≡ change_line w x (take x.width (drop low row)) ++ change_lines (w + 1) (drop (w + 1) wires) (drop (low + x.width) row)
line_here wires w low x row lt is =
    ap (λ (xs : List WireOf). change_lines w xs (drop low row)) (drop_more wires w x lt ∙ ap (λ (y : WireOf). y ∷ drop (w + 1) wires) (sym is))
    ∙ ap (λ (r : Row). change_line w x (take x.width (drop low row)) ++ change_lines (w + 1) (drop (w + 1) wires) r) (drop-drop x.width low row)

change_here : (d : DesignOf) (rows : List Row) (k w low : ℕ) (x : WireOf) → w < length d.wires → x ≡ get_or d.wires w x
    → changes_text d rows k w low ≡ change_line w x (take x.width (drop low (get_or rows k []))) ++ changes_text d rows k (w + 1) (low + x.width)
change_here d rows k w low x lt is =
    let row : Row = get_or rows k [] in
    ap (λ (t : List ℕ). t ++ times_text d rows (k + 1)) (line_here d.wires w low x row lt is)
    ∙ append_assoc (change_line w x (take x.width (drop low row))) (change_lines (w + 1) (drop (w + 1) d.wires) (drop (low + x.width) row)) (times_text d rows (k + 1))

several : (n w : ℕ) (bits : Row) → (n ≡ 1 → ⊥)
    → (if n == 1 then value_text bits else 98 ∷ (value_text bits ++ 32 ∷ [])) ++ (identifier w ++ 10 ∷ []) ≡ (98 ∷ (value_text bits ++ 32 ∷ [])) ++ (identifier w ++ 10 ∷ [])
several n w bits many = ap (λ (one : Bool). (if one then value_text bits else 98 ∷ (value_text bits ++ 32 ∷ [])) ++ (identifier w ++ 10 ∷ [])) (ne_eqb n 1 many)

-- the line of a wire of several bits
pub bits_text : (d : DesignOf) (rows : List Row) (k w low : ℕ) (x : WireOf) → w < length d.wires → x ≡ get_or d.wires w x → (x.width ≡ 1 → ⊥)
    → ((98 ∷ []) ++ (value_text (take x.width (drop low (get_or rows k []))) ++ (32 ∷ (identifier w ++ 10 ∷ [])))) ++ changes_text d rows k (w + 1) (low + x.width) ≡ changes_text d rows k w low
bits_text d rows k w low x lt is many =
    let bits : Row = take x.width (drop low (get_or rows k [])) in
    sym (change_here d rows k w low x lt is
    ∙ ap (λ (t : List ℕ). t ++ changes_text d rows k (w + 1) (low + x.width)) (several x.width w bits many
    ∙ ap (λ (t : List ℕ). 98 ∷ t) (append_assoc (value_text bits) (32 ∷ []) (identifier w ++ 10 ∷ []))))

-- and of one bit
pub bit_text : (d : DesignOf) (rows : List Row) (k w low : ℕ) (x : WireOf) (bit : Bool) → w < length d.wires → x ≡ get_or d.wires w x → x.width ≡ 1
    → low < length (get_or rows k []) → bit ≡ get_or (get_or rows k []) low false
    → (digit bit ∷ (identifier w ++ 10 ∷ [])) ++ changes_text d rows k (w + 1) (low + x.width) ≡ changes_text d rows k w low
bit_text d rows k w low x bit lt is one there has =
    let row : Row = get_or rows k [] in
    let line : change_line w x (take x.width (drop low row)) ≡ digit bit ∷ (identifier w ++ 10 ∷ []) =
    ap (λ (n : ℕ). (if n == 1 then value_text (take n (drop low row)) else 98 ∷ (value_text (take n (drop low row)) ++ 32 ∷ [])) ++ (identifier w ++ 10 ∷ [])) one
    ∙ ap (λ (r : Row). value_text (take 1 r) ++ (identifier w ++ 10 ∷ [])) (drop_more row low false there)
    ∙ ap (λ (b : Bool). digit b ∷ (identifier w ++ 10 ∷ [])) (sym has) in
    sym (change_here d rows k w low x lt is ∙ ap (λ (t : List ℕ). t ++ changes_text d rows k (w + 1) (low + x.width)) line)

pub changes_over : (d : DesignOf) (rows : List Row) (k w low : ℕ) → length d.wires ≤ w → times_text d rows (k + 1) ≡ changes_text d rows k w low
changes_over d rows k w low le = sym (ap (λ (xs : List WireOf). change_lines w xs (drop low (get_or rows k [])) ++ times_text d rows (k + 1)) (drop_of_length-le d.wires le))

-- the widths from a wire on
pub widths_here : (wires : List WireOf) (w : ℕ) (x : WireOf) → w < length wires → x ≡ get_or wires w x
    → sum_by (λ w. w.width) (drop w wires) ≡ x.width + sum_by (λ w. w.width) (drop (w + 1) wires)
widths_here wires w x lt is = sum_by-drop_more (λ (y : WireOf). y.width) wires w x lt ∙ ap (λ (y : WireOf). y.width + sum_by (λ w. w.width) (drop (w + 1) wires)) (sym is)

-- the bits of a wire are in the row
pub bits_there : (d : DesignOf) (rows : List Row) (k w low : ℕ) (x : WireOf) → IsShownOf d rows → k < length rows → w < length d.wires → x ≡ get_or d.wires w x
    → low + sum_by (λ w. w.width) (drop w d.wires) ≡ wire_bits d → low + x.width ≤ length (get_or rows k [])
bits_there d rows k w low x shown lt within is at =
    let widths = widths_here d.wires w x within is in
    let long = shown k [] lt in
    omega (arith, widths, long, at)

-- ---- a line and what comes after it

pub line_then : (d : DesignOf) (rows : List Row) (line text rest : List ℕ) (next place : Place) → line ≡ text → next ≡ place → text_from d rows place ≡ rest
    → line ++ text_from d rows next ≡ text ++ rest
line_then d rows line text rest next place e f g =
    ap (λ (t : List ℕ). t ++ text_from d rows next) e ∙ ap (λ (p : Place). text ++ text_from d rows p) f ∙ ap (λ (t : List ℕ). text ++ t) g

pub declared_line : (d : DesignOf) (rows : List Row) (w : ℕ) (x : WireOf) (width : ℕ) (name line before : List ℕ) (next place : Place) → w < length d.wires → x ≡ get_or d.wires w x
    → width ≡ x.width → name ≡ x.name → before ≡ codes "$var wire " ++ (decimal width ++ (32 ∷ (identifier w ++ 32 ∷ []))) → line ≡ before ++ name_end name → next ≡ place
    → text_from d rows place ≡ declarations_text d rows (w + 1) → line ++ text_from d rows next ≡ declarations_text d rows w
declared_line d rows w x width name line before next place lt is wide named b l n t =
    line_then d rows line (before_name x.width w ++ name_end x.name) (declarations_text d rows (w + 1)) next place
    (l ∙ ap (λ (s : List ℕ). s ++ name_end name) (b ∙ ap (λ (m : ℕ). before_name m w) wide) ∙ ap (λ (s : List ℕ). before_name x.width w ++ name_end s) named) n t
    ∙ declaration_text d rows w x lt is

pub scope_line : (d : DesignOf) (rows : List Row) (name line before : List ℕ) (next place : Place) → name ≡ d.name → before ≡ codes "$scope module " → line ≡ before ++ name_end name → next ≡ place
    → text_from d rows place ≡ declarations_text d rows 0 → line ++ text_from d rows next ≡ vcd d rows
scope_line d rows name line before next place named b l n t =
    line_then d rows line (codes "$scope module " ++ name_end d.name) (declarations_text d rows 0) next place
    (l ∙ ap (λ (s : List ℕ). s ++ name_end name) b ∙ ap (λ (s : List ℕ). codes "$scope module " ++ name_end s) named) n t
    ∙ scope_text d rows

pub bits_line : (d : DesignOf) (rows : List Row) (k w low : ℕ) (x : WireOf) (width : ℕ) (before after : List ℕ) (place : Place) → w < length d.wires → x ≡ get_or d.wires w x
    → width ≡ x.width → (width ≡ 1 → ⊥) → before ≡ 98 ∷ [] → after ≡ 32 ∷ (identifier w ++ 10 ∷ []) → text_from d rows place ≡ changes_text d rows k (w + 1) (low + width)
    → (before ++ (value_text (take width (drop low (get_or rows k []))) ++ after)) ++ text_from d rows place ≡ changes_text d rows k w low
bits_line d rows k w low x width before after place lt is wide many b a t =
    let row : Row = get_or rows k [] in
    let value : List ℕ = value_text (take width (drop low row)) in
    let rest : List ℕ = changes_text d rows k (w + 1) (low + width) in
    ap (λ (s : List ℕ). (before ++ (value ++ after)) ++ s) t
    ∙ ap (λ (s : List ℕ). (s ++ (value ++ after)) ++ rest) b
    ∙ ap (λ (s : List ℕ). ((98 ∷ []) ++ (value ++ s)) ++ rest) a
    ∙ ap (λ (n : ℕ). ((98 ∷ []) ++ (value_text (take n (drop low row)) ++ (32 ∷ (identifier w ++ 10 ∷ [])))) ++ changes_text d rows k (w + 1) (low + n)) wide
    ∙ bits_text d rows k w low x lt is (λ one. many (wide ∙ one))

pub bit_line : (d : DesignOf) (rows : List Row) (k w low : ℕ) (x : WireOf) (width : ℕ) (bit : Bool) (line : List ℕ) (next place : Place) → w < length d.wires → x ≡ get_or d.wires w x
    → width ≡ x.width → width ≡ 1 → low + x.width ≤ length (get_or rows k []) → bit ≡ get_or (get_or rows k []) low false → line ≡ digit bit ∷ (identifier w ++ 10 ∷ []) → next ≡ place
    → text_from d rows place ≡ changes_text d rows k (w + 1) (low + width) → line ++ text_from d rows next ≡ changes_text d rows k w low
bit_line d rows k w low x width bit line next place lt is wide one there has l n t =
    line_then d rows line (digit bit ∷ (identifier w ++ 10 ∷ [])) (changes_text d rows k (w + 1) (low + x.width)) next place l n
    (t ∙ ap (λ (m : ℕ). changes_text d rows k (w + 1) (low + m)) wide)
    ∙ bit_text d rows k w low x bit lt is (sym wide ∙ one) (omega arith) has
