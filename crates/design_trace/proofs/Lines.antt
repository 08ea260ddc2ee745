-- The lines of a trace as patterns, and read back.
use Rattle.std.proofs.Common.{◌≡◌, ◌∙◌, ◌+◌, ◌==◌, ℕ, Bool, true, false, zero, suc, List, [], ◌∷◌, ◌++◌, Some, None, map, replicate, reverse, length, take, drop, refl, sym, ap, ap₂, subst, inl, inr, arith, append_assoc, length-append}
use Rattle.std.specs.Prelude.{All}
use Rattle.std.specs.List.{flat_map, sum_by}
use Rattle.std.proofs.Math.Seq.{drop-append_seam, take-append_seam}
use Rattle.std.proofs.lemmas.List.{append-nil, append_cancel_left, append_cancel_right, length-drop, length-map, length-reverse, length-take, map-append, reverse-append, reverse-reverse, take-append-drop}
use Rattle.std.proofs.lemmas.List.Elements.{All-cons, All-head, All-nil, All-tail}
use Rattle.std.proofs.lemmas.List.Sums.{sum_by-cons}
use Rattle.sby_bits.specs.Rows.{Row}
use Rattle.design_meaning.specs.Runs.{CycleOf, IsCycleOf, IsRunOf, IsShownOf, shown_of}
use Rattle.design_core.specs.Shape.{DesignOf, WireOf, wire_bits}
use Rattle.design_trace.specs.Trace.{cycle_line, cycles_from, digit, value_text, wire_line, wire_lines}
use Rattle.design_trace.specs.Reading.{Allows, IsDigits, Pattern, bits_of, cycle_pattern, wire_pattern}
use Rattle.design_trace.proofs.Patterns.{InParts, Matches, literal_matches, matches_append, matches_length, matches_literal, matches_split}

abbrev pub width_of : WireOf → ℕ
width_of w = w.width

abbrev is_one : ℕ → Bool
is_one x = x == 49

abbrev pub IsRowOf : DesignOf → Row → Type 0
IsRowOf d row = length row ≡ wire_bits d

-- ---- lists

map_reverse : {A B : Type 0} (f : A → B) (xs : List A) → map f (reverse xs) ≡ reverse (map f xs)
map_reverse f [] = refl
map_reverse f (x ∷ xs) =
    ap (map f) (reverse-append (x ∷ []) xs) ∙ map-append f (reverse xs) (x ∷ []) ∙ ap (λ t. t ++ f x ∷ []) (map_reverse f xs) ∙ sym (reverse-append (f x ∷ []) (map f xs))

map_back : {A B : Type 0} (f : A → B) (g : B → A) → ((x : A) → g (f x) ≡ x) → (xs : List A) → map g (map f xs) ≡ xs
map_back f g back [] = refl
map_back f g back (x ∷ xs) = ap₂ (λ y ys. y ∷ ys) (back x) (map_back f g back xs)

-- lists that are equal, and as long in their first parts, are equal in both parts
pub same_parts : {A : Type 0} (a b x y : List A) → length a ≡ length b → a ++ x ≡ b ++ y → (a ≡ b) × (x ≡ y)
same_parts a b x y long e = (
  sym (take-append_seam a x) ∙ ap (take (length a)) e ∙ ap (λ n. take n (b ++ y)) long ∙ take-append_seam b y,
  sym (drop-append_seam a x) ∙ ap (drop (length a)) e ∙ ap (λ n. drop n (b ++ y)) long ∙ drop-append_seam b y,
)

-- ---- bits

digit_back : (b : Bool) → is_one (digit b) ≡ b
digit_back true = refl
digit_back false = refl

pub bits_of_value : (row : Row) → bits_of (value_text row) ≡ row
bits_of_value row =
    map_reverse is_one (map digit (reverse row)) ∙ ap reverse (map_back digit is_one digit_back (reverse row)) ∙ reverse-reverse row

digits_match : (bits : List Bool) → Matches (replicate (length bits) None) (map digit bits)
digits_match [] = tt
digits_match (true ∷ bits) = (inr refl, digits_match bits)
digits_match (false ∷ bits) = (inl refl, digits_match bits)

pub value_matches : (row : Row) (width : ℕ) → length row ≡ width → Matches (replicate width None) (value_text row)
value_matches row width long = subst (λ n. Matches (replicate n None) (value_text row)) (length-reverse row ∙ long) (digits_match (reverse row))

one_digit : (x : ℕ) → Allows None x → digit (is_one x) ≡ x
one_digit x (inl e) = rw e refl
one_digit x (inr e) = rw e refl

digits_back : (xs : List ℕ) → All (Allows None) xs → map digit (map is_one xs) ≡ xs
digits_back [] all = refl
digits_back (x ∷ xs) all = ap₂ (λ y ys. y ∷ ys) (one_digit x (All-head (Allows None) x xs all)) (digits_back xs (All-tail (Allows None) x xs all))

-- digits are the text of the bits that they write
pub digits_are_value : (width : ℕ) (xs : List ℕ) → IsDigits width xs → (value_text (bits_of xs) ≡ xs) × (length (bits_of xs) ≡ width)
digits_are_value width xs is = (
  ap (map digit) (ap reverse (map_reverse is_one xs) ∙ reverse-reverse (map is_one xs)) ∙ digits_back xs is.1,
  simp length-map (length-reverse xs ∙ is.0),
)

pub match_is_digits : (width : ℕ) (xs : List ℕ) → Matches (replicate width None) xs → IsDigits width xs
match_is_digits zero [] a = (refl, All-nil (Allows None))
match_is_digits zero (x ∷ xs) a = absurd a
match_is_digits (suc n) [] a = absurd a
match_is_digits (suc n) (x ∷ xs) a = let rest = match_is_digits n xs a.1 in (ap suc rest.0, All-cons (Allows None) x xs a.0 rest.1)

pub digits_match_all : (width : ℕ) (xs : List ℕ) → IsDigits width xs → Matches (replicate width None) xs
digits_match_all width xs is = let back = digits_are_value width xs is in subst (Matches (replicate width None)) back.0 (value_matches (bits_of xs) width back.1)

-- ---- wires

pub wire_matches : (w : WireOf) (row : Row) → length row ≡ w.width → Matches (wire_pattern w) (wire_line w row)
wire_matches w row long = matches_append (map Some w.name) _ w.name _ (matches_literal w.name)
    (refl, matches_append (replicate w.width None) (Some 10 ∷ []) (value_text row) (10 ∷ []) (value_matches row w.width long) (refl, tt))

-- the row of a wire's line
pub record WireRow (w : WireOf) (xs : List ℕ) : Type 0 where
  pub row : Row
  pub long : length row ≡ w.width
  pub line : xs ≡ wire_line w row

match_is_wire : (w : WireOf) (xs : List ℕ) → Matches (wire_pattern w) xs → WireRow w xs
match_is_wire w xs a = go (matches_split (map Some w.name) (Some 32 ∷ (replicate w.width None ++ Some 10 ∷ [])) xs a)
  where
    ends : (ys : List ℕ) → Matches (Some 10 ∷ []) ys → ys ≡ 10 ∷ []
    ends ys m = literal_matches (10 ∷ []) ys m

    values : (name ys : List ℕ) → name ≡ w.name → Matches (replicate w.width None ++ Some 10 ∷ []) ys → WireRow w (name ++ 32 ∷ ys)
    values name ys same m =
        let parts = matches_split (replicate w.width None) (Some 10 ∷ []) ys m in
        let back = digits_are_value w.width parts.first (match_is_digits w.width parts.first parts.begins) in
        record {
          row = bits_of parts.first;
          long = back.1;
          line = ap₂ (λ (s t : List ℕ). s ++ 32 ∷ t) same (parts.whole ∙ ap₂ (λ (s t : List ℕ). s ++ t) (sym back.0) (ends parts.second parts.ends));
        }

    space : (name ys : List ℕ) → name ≡ w.name → Matches (Some 32 ∷ (replicate w.width None ++ Some 10 ∷ [])) ys → WireRow w (name ++ ys)
    space name [] same m = absurd m
    space name (y ∷ ys) same m =
        let row = values name ys same m.1 in
        record { row = row.row; long = row.long; line = ap (λ b. name ++ b ∷ ys) m.0 ∙ row.line }

    go : InParts (map Some w.name) (Some 32 ∷ (replicate w.width None ++ Some 10 ∷ [])) xs → WireRow w xs
    go parts =
        let row = space parts.first parts.second (literal_matches w.name parts.first parts.begins) parts.ends in
        record { row = row.row; long = row.long; line = parts.whole ∙ row.line }

-- ---- all wires

first_width : (w : WireOf) (ws : List WireOf) (row : Row) → length row ≡ sum_by width_of (w ∷ ws)
    → (length (take w.width row) ≡ w.width) × (length (drop w.width row) ≡ sum_by width_of ws)
first_width w ws row long =
    let whole : length row ≡ w.width + sum_by width_of ws = long ∙ sum_by-cons width_of w ws in
    (omega (arith, whole, length-take w.width row), omega (arith, whole, length-drop w.width row))

pub lines_match : (ws : List WireOf) (row : Row) → length row ≡ sum_by width_of ws → Matches (flat_map wire_pattern ws) (wire_lines ws row)
lines_match [] row long = tt
lines_match (w ∷ ws) row long =
    let widths = first_width w ws row long in
    matches_append (wire_pattern w) (flat_map wire_pattern ws) (wire_line w (take w.width row)) (wire_lines ws (drop w.width row))
    (wire_matches w (take w.width row) widths.0) (lines_match ws (drop w.width row) widths.1)

-- the row of the wires' lines
pub record LinesRow (ws : List WireOf) (xs : List ℕ) : Type 0 where
  pub row : Row
  pub long : length row ≡ sum_by width_of ws
  pub lines : xs ≡ wire_lines ws row

-- the lines of one wire more
pub lines_cons : (w : WireOf) (ws : List WireOf) (r rest : Row) → length r ≡ w.width → wire_line w r ++ wire_lines ws rest ≡ wire_lines (w ∷ ws) (r ++ rest)
lines_cons w ws r rest long =
    ap₂ (λ (s t : Row). wire_line w s ++ wire_lines ws t)
    (sym (take-append_seam r rest) ∙ ap (λ n. take n (r ++ rest)) long)
    (sym (drop-append_seam r rest) ∙ ap (λ n. drop n (r ++ rest)) long)

-- the lines of one wire more, after the others
pub lines_push : (ws : List WireOf) (w : WireOf) (r s : Row) → length r ≡ sum_by width_of ws → length s ≡ w.width
    → wire_lines (ws ++ w ∷ []) (r ++ s) ≡ wire_lines ws r ++ wire_line w s
lines_push [] w [] s lr ls = ap (wire_lines (w ∷ [])) (sym (append-nil s)) ∙ sym (lines_cons w [] s [] ls) ∙ append-nil (wire_line w s)
lines_push [] w (x ∷ r) s lr ls = absurd (omega (arith, lr))
lines_push (v ∷ vs) w r s lr ls =
    let widths = first_width v vs r lr in
    let first = take v.width r in
    let later = drop v.width r in
    ap (λ (t : Row). wire_lines (v ∷ (vs ++ w ∷ [])) (t ++ s)) (sym (take-append-drop v.width r))
    ∙ ap (wire_lines (v ∷ (vs ++ w ∷ []))) (append_assoc first later s)
    ∙ sym (lines_cons v (vs ++ w ∷ []) first (later ++ s) widths.0)
    ∙ ap (λ t. wire_line v first ++ t) (lines_push vs w later s widths.1 ls)
    ∙ sym (append_assoc (wire_line v first) (wire_lines vs later) (wire_line w s))

pub match_is_lines : (ws : List WireOf) (xs : List ℕ) → Matches (flat_map wire_pattern ws) xs → LinesRow ws xs
match_is_lines [] [] a = record { row = []; long = refl; lines = refl }
match_is_lines [] (x ∷ xs) a = absurd a
match_is_lines (w ∷ ws) xs a =
    let parts = matches_split (wire_pattern w) (flat_map wire_pattern ws) xs a in
    let first = match_is_wire w parts.first parts.begins in
    let later = match_is_lines ws parts.second parts.ends in
    record {
      row = first.row ++ later.row;
      long = length-append first.row later.row ∙ ap₂ (λ m n. m + n) first.long later.long ∙ sym (sum_by-cons width_of w ws);
      lines = parts.whole ∙ ap₂ (λ (s t : List ℕ). s ++ t) first.line later.lines ∙ lines_cons w ws first.row later.row first.long;
    }

line_row_is_one : (w : WireOf) (r s : Row) → wire_line w r ≡ wire_line w s → r ≡ s
line_row_is_one w r s e =
    let values : 32 ∷ (value_text r ++ 10 ∷ []) ≡ 32 ∷ (value_text s ++ 10 ∷ []) = append_cancel_left w.name _ _ e in
    let same : value_text r ≡ value_text s = append_cancel_right (value_text r) (value_text s) (10 ∷ []) (ap (drop 1) values) in
    sym (bits_of_value r) ∙ ap bits_of same ∙ bits_of_value s

-- the lines have one row
pub lines_row_is_one : (ws : List WireOf) (r s : Row) (x y : List ℕ) → length r ≡ sum_by width_of ws → length s ≡ sum_by width_of ws
    → wire_lines ws r ++ x ≡ wire_lines ws s ++ y → (r ≡ s) × (x ≡ y)
lines_row_is_one [] r s x y a b e = (nil r a ∙ sym (nil s b), e)
  where
    nil : (t : Row) → length t ≡ 0 → t ≡ []
    nil [] n = refl
    nil (z ∷ zs) n = absurd (omega (arith, n))
lines_row_is_one (w ∷ ws) r s x y a b e =
    let first_r = first_width w ws r a in
    let first_s = first_width w ws s b in
    let line_r = wire_line w (take w.width r) in
    let line_s = wire_line w (take w.width s) in
    let long : length line_r ≡ length line_s =
    matches_length (wire_pattern w) line_r (wire_matches w (take w.width r) first_r.0) ∙ sym (matches_length (wire_pattern w) line_s (wire_matches w (take w.width s) first_s.0)) in
    let parts = same_parts line_r line_s (wire_lines ws (drop w.width r) ++ x) (wire_lines ws (drop w.width s) ++ y) long
    (sym (append_assoc line_r (wire_lines ws (drop w.width r)) x) ∙ e ∙ append_assoc line_s (wire_lines ws (drop w.width s)) y) in
    let later = lines_row_is_one ws (drop w.width r) (drop w.width s) x y first_r.1 first_s.1 parts.1 in
    let front = line_row_is_one w (take w.width r) (take w.width s) parts.0 in
    (sym (take-append-drop w.width r) ∙ ap₂ (λ (u v : Row). u ++ v) front later.0 ∙ take-append-drop w.width s, later.1)

-- ---- cycles

-- j cycles from cycle k on
abbrev pub cycles_pattern : DesignOf → ℕ → ℕ → Pattern
cycles_pattern d k zero = []
cycles_pattern d k (suc j) = cycle_pattern d k ++ cycles_pattern d (k + 1) j

pub cycles_pattern_parts : (d : DesignOf) (k i j n l : ℕ) → n ≡ i + j → l ≡ k + i → cycles_pattern d k n ≡ cycles_pattern d k i ++ cycles_pattern d l j
cycles_pattern_parts d k zero j n l e f =
    let count : n ≡ j = omega (arith, e) in
    let from : k ≡ l = omega (arith, f) in
    ap₂ (cycles_pattern d) from count
cycles_pattern_parts d k (suc i) j zero l e f = absurd (omega (arith, e))
cycles_pattern_parts d k (suc i) j (suc n) l e f =
    ap (λ t. cycle_pattern d k ++ t) (cycles_pattern_parts d (k + 1) i j n l (omega (arith, e)) (omega (arith, f)))
    ∙ sym (append_assoc (cycle_pattern d k) (cycles_pattern d (k + 1) i) (cycles_pattern d l j))

pub cycles_match : (d : DesignOf) (k : ℕ) (rows : List Row) → IsShownOf d rows → Matches (cycles_pattern d k (length rows)) (cycles_from d k rows)
cycles_match d k [] fits = tt
cycles_match d k (row ∷ rows) fits =
    matches_append (cycle_pattern d k) (cycles_pattern d (k + 1) (length rows)) (cycle_line k ++ wire_lines d.wires row) (cycles_from d (k + 1) rows)
    (matches_append (map Some (cycle_line k)) (flat_map wire_pattern d.wires) (cycle_line k) (wire_lines d.wires row) (matches_literal (cycle_line k))
    (lines_match d.wires row (All-head (IsRowOf d) row rows fits)))
    (cycles_match d (k + 1) rows (All-tail (IsRowOf d) row rows fits))

-- the rows of the cycles' lines
pub record RowsOf (d : DesignOf) (k j : ℕ) (xs : List ℕ) : Type 0 where
  pub rows : List Row
  pub count : length rows ≡ j
  pub fits : IsShownOf d rows
  pub lines : xs ≡ cycles_from d k rows

pub match_is_cycles : (d : DesignOf) (k j : ℕ) (xs : List ℕ) → Matches (cycles_pattern d k j) xs → RowsOf d k j xs
match_is_cycles d k zero [] a = record { rows = []; count = refl; fits = All-nil (IsRowOf d); lines = refl }
match_is_cycles d k zero (x ∷ xs) a = absurd a
match_is_cycles d k (suc j) xs a =
    let parts = matches_split (cycle_pattern d k) (cycles_pattern d (k + 1) j) xs a in
    let cycle = matches_split (map Some (cycle_line k)) (flat_map wire_pattern d.wires) parts.first parts.begins in
    let wires = match_is_lines d.wires cycle.second cycle.ends in
    let later = match_is_cycles d (k + 1) j parts.second parts.ends in
    record {
      rows = wires.row ∷ later.rows;
      count = ap suc later.count;
      fits = All-cons (IsRowOf d) wires.row later.rows wires.long later.fits;
      lines = parts.whole ∙ ap₂ (λ (s t : List ℕ). s ++ t)
          (cycle.whole ∙ ap₂ (λ (s t : List ℕ). s ++ t) (literal_matches (cycle_line k) cycle.first cycle.begins) wires.lines) later.lines;
    }

-- the cycles have one list of rows
pub cycles_rows_are_one : (d : DesignOf) (k : ℕ) (a b : List Row) → IsShownOf d a → IsShownOf d b → cycles_from d k a ≡ cycles_from d k b → a ≡ b
cycles_rows_are_one d k [] [] fa fb e = refl
cycles_rows_are_one d k [] (y ∷ ys) fa fb e = cc
cycles_rows_are_one d k (x ∷ xs) [] fa fb e = cc
cycles_rows_are_one d k (x ∷ xs) (y ∷ ys) fa fb e =
    let from = cycles_from d (k + 1) in
    let flat = λ (z : Row) (zs : List Row). append_assoc (cycle_line k) (wire_lines d.wires z) (from zs) in
    let same : wire_lines d.wires x ++ from xs ≡ wire_lines d.wires y ++ from ys = append_cancel_left (cycle_line k) _ _ (sym (flat x xs) ∙ e ∙ flat y ys) in
    let parts = lines_row_is_one d.wires x y (from xs) (from ys) (All-head (IsRowOf d) x xs fa) (All-head (IsRowOf d) y ys fb) same in
    ap₂ (λ z zs. z ∷ zs) parts.0 (cycles_rows_are_one d (k + 1) xs ys (All-tail (IsRowOf d) x xs fa) (All-tail (IsRowOf d) y ys fb) parts.1)

-- ---- runs

pub shown_length : (run : List CycleOf) → length (shown_of run) ≡ length run
shown_length run = simp length-map

pub shown_fits : (d : DesignOf) (run : List CycleOf) → IsRunOf d run → IsShownOf d (shown_of run)
shown_fits d [] fits = All-nil (IsRowOf d)
shown_fits d (c ∷ run) fits = All-cons (IsRowOf d) c.wires (shown_of run) (All-head (IsCycleOf d) c run fits).wires (shown_fits d run (All-tail (IsCycleOf d) c run fits))
