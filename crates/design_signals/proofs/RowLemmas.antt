-- Rows of chunks.
use Rattle.std.proofs.Common.{◌≡◌, ℕ, zero, suc, ◌+◌, ◌-◌, ◌<◌, ◌≤◌, true, false, List, [], ◌∷◌, ◌++◌, length, replicate, take, drop, map, Option, Some, None, get_or, refl, sym, ap, ◌∙◌, subst, append_assoc, arith}
use Rattle.std.specs.Prelude.{reverse, Result, Ok, Err, OnOk, IfOk, option_to_list, IsSome, ◌↔◌}
use Rattle.std.proofs.lemmas.List.{take-append-drop, take_at, take-take, drop-append-le, length-append, length-take, length-map, length-reverse, reverse-append, reverse-reverse, append-nil, drop_more, drop_all, drop_at, length-drop, get_or-reverse}
use Rattle.std.proofs.Math.Seq.{drop-append_seam}
use Rattle.design_signals.specs.declared.sig_bit.SigBit.{SigBit}
use Rattle.design_signals.specs.declared.sig_bit.SigBit.TheVariants.{Wire, Const, Free}
use Rattle.design_signals.specs.declared.chunk.Chunk.{Chunk}
use Rattle.design_signals.specs.Chunks.{above, bits_from, chunk_bits, bits_of}
use Rattle.design_signals.specs.Parts.{falling, row_of, rows_of, AreStarts, free_row, wire_row, slice_row, IsSliced}
use Rattle.design_signals.proofs.Cutting.{long_step}

abbrev Bits : Type 0
Bits = List SigBit

abbrev Chunks : Type 0
Chunks = List Chunk

reversed_push : (starts : List ℕ) (s : ℕ) → reverse (starts ++ s ∷ []) ≡ s ∷ reverse starts
reversed_push starts s = reverse-append starts (s ∷ [])

-- a row after the others
rows_push : (cs row : Chunks) (starts : List ℕ) (s : ℕ) → s ≡ length cs → rows_of (cs ++ row) (reverse (starts ++ s ∷ [])) ≡ row ∷ rows_of cs (reverse starts)
rows_push cs row starts s e =
    let behind : drop s (cs ++ row) ≡ row = rw e (drop-append_seam cs row) in
    let before : take s (cs ++ row) ≡ cs = take_at cs row s (sym e) in
    ap (λ (x : List ℕ). rows_of (cs ++ row) x) (reversed_push starts s)
    ∙ ap (λ (x : Chunks). x ∷ rows_of (take s (cs ++ row)) (reverse starts)) behind
    ∙ ap (λ (x : Chunks). row ∷ rows_of x (reverse starts)) before

abbrev pub shown : Chunks → List ℕ → List Bits
shown cs starts = map row_of (rows_of cs (reverse starts))

pub shown_push : (cs : Chunks) (c : Chunk) (starts : List ℕ) (s : ℕ) → s ≡ length cs → shown (cs ++ c ∷ []) (starts ++ s ∷ []) ≡ falling c ∷ shown cs starts
shown_push cs c starts s e =
    ap (λ (x : List Chunks). map row_of x) (rows_push cs (c ∷ []) starts s e)
    ∙ ap (λ (x : Bits). x ∷ shown cs starts) (append-nil (falling c))

pub shown_open : (cs : Chunks) (starts : List ℕ) (s : ℕ) → s ≡ length cs → shown cs (starts ++ s ∷ []) ≡ [] ∷ shown cs starts
shown_open cs starts s e =
    ap (λ (x : List Chunks). map row_of x)
    (subst (λ (x : Chunks). rows_of x (reverse (starts ++ s ∷ [])) ≡ [] ∷ rows_of cs (reverse starts)) (append-nil cs) (rows_push cs [] starts s e))

pub starts_push : (n m s : ℕ) (starts : List ℕ) → AreStarts n (reverse starts) → s ≡ n → n ≤ m → AreStarts m (reverse (starts ++ s ∷ []))
starts_push n m s starts h e le =
    subst (λ (x : List ℕ). AreStarts m x) (sym (reversed_push starts s)) (omega arith, subst (λ (x : ℕ). AreStarts x (reverse starts)) (sym e) h)

-- ---- the last two rows as one

pub row_append : (cs ds : Chunks) → row_of (cs ++ ds) ≡ row_of cs ++ row_of ds
row_append [] ds = refl
row_append (c ∷ cs) ds = ap (λ (x : Bits). falling c ++ x) (row_append cs ds) ∙ sym (append_assoc (falling c) (row_of cs) (row_of ds))

two_rows : (cs : Chunks) (s t : ℕ) → s ≤ length cs → t ≤ s → drop t (take s cs) ++ drop s cs ≡ drop t cs
two_rows cs s t h le =
    sym (drop-append-le t (take s cs) (drop s cs) (omega (arith, length-take s cs))) ∙ ap (λ (x : Chunks). drop t x) (take-append-drop s cs)

joined : (cs : Chunks) (s : ℕ) (rs : List ℕ) → AreStarts (length cs) (s ∷ rs) → (row above : Bits) (rows : List Bits) → map row_of (rows_of cs (s ∷ rs)) ≡ row ∷ above ∷ rows
    → map row_of (rows_of cs rs) ≡ (above ++ row) ∷ rows
joined cs s [] h row above rows e = absurd cc
joined cs s (t ∷ ts) h row above rows e =
    let first : row_of (drop s cs) ≡ row = cc in
    let second : row_of (drop t (take s cs)) ≡ above = cc in
    let others : map row_of (rows_of (take t (take s cs)) ts) ≡ rows = cc in
    let whole : row_of (drop t cs) ≡ above ++ row =
    ap (λ (x : Chunks). row_of x) (sym (two_rows cs s t h.0 h.1.0)) ∙ row_append (drop t (take s cs)) (drop s cs)
    ∙ ap (λ (x : Bits). x ++ row_of (drop s cs)) second ∙ ap (λ (x : Bits). above ++ x) first in
    ap (λ (x : Bits). x ∷ map row_of (rows_of (take t cs) ts)) whole
    ∙ ap (λ (x : Chunks). (above ++ row) ∷ map row_of (rows_of x ts)) (sym (take-take t s cs h.1.0))
    ∙ ap (λ (x : List Bits). (above ++ row) ∷ x) others

starts_up : (n m : ℕ) (rs : List ℕ) → AreStarts n rs → n ≤ m → 0 < length rs → AreStarts m rs
starts_up n m [] h le some = absurd (omega arith)
starts_up n m (s ∷ rs) h le some = (omega (arith, h.0), h.1)

rows_long : (cs : Chunks) (rs : List ℕ) → length (rows_of cs rs) ≡ length rs
rows_long cs [] = refl
rows_long cs (s ∷ rs) = ap suc (rows_long (take s cs) rs)

pub shown_long : (cs : Chunks) (starts : List ℕ) → length (shown cs starts) ≡ length starts
shown_long cs starts = length-map (rows_of cs (reverse starts)) row_of ∙ rows_long cs (reverse starts) ∙ length-reverse starts

abbrev Popped : List ℕ → List ℕ → Option ℕ → ℕ → Type 0
Popped starts fewer last n = (starts ≡ fewer ++ option_to_list last) × (n ≡ length starts) × (IsSome last ↔ (0 < n))

pub join_starts : (cs : Chunks) (starts fewer : List ℕ) (last : Option ℕ) (n : ℕ) → Popped starts fewer last n → 2 ≤ length (shown cs starts) → AreStarts (length cs) (reverse starts) → AreStarts (length cs) (reverse fewer)
join_starts cs starts fewer None n p some h = let no : false ≡ true = p.2.1 (omega (arith, p.1, shown_long cs starts, some)) in absurd cc
join_starts cs starts fewer (Some s) n p some h =
    let turned = subst (λ (x : List ℕ). AreStarts (length cs) x) (ap (λ (x : List ℕ). reverse x) p.0 ∙ reversed_push fewer s) h in
    starts_up s (length cs) (reverse fewer) turned.1 turned.0
    (omega (arith, shown_long cs starts, some, ap (λ (x : List ℕ). length x) p.0, length-append fewer (s ∷ []), length-reverse fewer))

pub join_rows : (cs : Chunks) (starts fewer : List ℕ) (last : Option ℕ) (n : ℕ) → Popped starts fewer last n → 2 ≤ length (shown cs starts) → AreStarts (length cs) (reverse starts)
    → (row above : Bits) (rows : List Bits) → shown cs starts ≡ row ∷ above ∷ rows → shown cs fewer ≡ (above ++ row) ∷ rows
join_rows cs starts fewer None n p some h row above rows e = let no : false ≡ true = p.2.1 (omega (arith, p.1, shown_long cs starts, some)) in absurd cc
join_rows cs starts fewer (Some s) n p some h row above rows e =
    let turned : reverse starts ≡ s ∷ reverse fewer = ap (λ (x : List ℕ). reverse x) p.0 ∙ reversed_push fewer s in
    joined cs s (reverse fewer) (subst (λ (x : List ℕ). AreStarts (length cs) x) turned h) row above rows (subst (λ (x : List ℕ). map row_of (rows_of cs x) ≡ row ∷ above ∷ rows) turned e)

-- ---- a wire, highest bit first

pub bits_more : (b : SigBit) (i n : ℕ) → bits_from b i (suc n) ≡ bits_from b i n ++ above b (i + n) ∷ []
bits_more b i zero = let at : i ≡ i + 0 = omega arith in ap (λ (j : ℕ). above b j ∷ []) at
bits_more b i (suc n) =
    let at : i + 1 + n ≡ i + suc n = omega arith in
    ap (λ (x : Bits). above b i ∷ x) (bits_more b (i + 1) n ∙ ap (λ (j : ℕ). bits_from b (i + 1) n ++ above b j ∷ []) at)

pub wire_falls : (w n : ℕ) → reverse (bits_from (Wire w 0) 0 n) ≡ wire_row w n
wire_falls w zero = refl
wire_falls w (suc n) =
    let at : 0 + (0 + n) ≡ n = omega arith in
    ap (λ (x : Bits). reverse x) (bits_more (Wire w 0) 0 n)
    ∙ reverse-append (bits_from (Wire w 0) 0 n) (above (Wire w 0) (0 + n) ∷ [])
    ∙ ap (λ (j : ℕ). Wire w j ∷ reverse (bits_from (Wire w 0) 0 n)) at
    ∙ ap (λ (x : Bits). Wire w n ∷ x) (wire_falls w n)

-- free bits, from the lowest number on, and one constant
pub free_falls : (m n count : ℕ) → m + 1 ≡ n + count → reverse (bits_from (Free m) 0 count) ≡ free_row n count
free_falls m n zero e = refl
free_falls m n (suc count) e =
    let at : m - (0 + count) ≡ n = omega arith in
    ap (λ (x : Bits). reverse x) (bits_more (Free m) 0 count)
    ∙ reverse-append (bits_from (Free m) 0 count) (above (Free m) (0 + count) ∷ [])
    ∙ ap (λ (j : ℕ). Free j ∷ reverse (bits_from (Free m) 0 count)) at
    ∙ ap (λ (x : Bits). Free n ∷ x) (free_falls m (n + 1) count (omega (arith, e)))

pub const_falls : (b : _) (count : ℕ) → reverse (bits_from (Const b) 0 count) ≡ replicate count (Const b)
const_falls b zero = refl
const_falls b (suc count) =
    ap (λ (x : Bits). reverse x) (bits_more (Const b) 0 count)
    ∙ reverse-append (bits_from (Const b) 0 count) (Const b ∷ [])
    ∙ ap (λ (x : Bits). Const b ∷ x) (const_falls b count)

-- a row has as many bits as its chunks read from below
row_long : (cs : Chunks) → length (row_of cs) ≡ length (bits_of cs)
row_long [] = refl
row_long (c ∷ cs) = omega (arith, length-append (falling c) (row_of cs), length-append (chunk_bits c) (bits_of cs), length-reverse (chunk_bits c), row_long cs)

pub row_step : (cs : Chunks) (i : ℕ) (d : Chunk) → i < length cs → length (row_of (drop i cs)) ≡ (get_or cs i d).width + length (row_of (drop (i + 1) cs))
row_step cs i d h = omega (arith, row_long (drop i cs), row_long (drop (i + 1) cs), long_step cs i d h)

pub on_ok : {X E : Type 0} (r : Result X E) (P Q : Type 0) → (P → Q) → OnOk r P → OnOk r Q
on_ok (Ok x) P Q f h = f h
on_ok (Err e) P Q f h = tt

-- ---- a row as a signal

pub turn_step : (signal new : Bits) (cs : Chunks) (k : ℕ) (d : Chunk) → 0 < k → k ≤ length cs → signal ≡ reverse (row_of (drop k cs)) → new ≡ signal ++ chunk_bits (get_or cs (k - 1) d)
    → new ≡ reverse (row_of (drop (k - 1) cs))
turn_step signal new cs k d some h e n =
    let c : Chunk = get_or cs (k - 1) d in
    let back : k - 1 + 1 ≡ k = omega arith in
    let split : drop (k - 1) cs ≡ c ∷ drop k cs = drop_more cs (k - 1) d (omega arith) ∙ ap (λ (j : ℕ). c ∷ drop j cs) back in
    n ∙ ap (λ (x : Bits). x ++ chunk_bits c) e
    ∙ ap (λ (x : Bits). reverse (row_of (drop k cs)) ++ x) (sym (reverse-reverse (chunk_bits c)))
    ∙ sym (reverse-append (falling c) (row_of (drop k cs)))
    ∙ ap (λ (x : Chunks). reverse (row_of x)) (sym split)

pub turn_start : (cs : Chunks) (k : ℕ) → k ≡ length cs → [] ≡ reverse (row_of (drop k cs))
turn_start cs k e = ap (λ (x : Chunks). reverse (row_of x)) (sym (drop_all k cs (omega arith)))

one : (cs : Chunks) (row : Bits) (rs : List ℕ) → AreStarts (length cs) rs → map row_of (rows_of cs rs) ≡ row ∷ [] → row_of cs ≡ row
one cs row [] h e = absurd cc
one cs row (s ∷ t ∷ rs) h e = absurd cc
one cs row (s ∷ []) h e =
    let first : row_of (drop s cs) ≡ row = cc in
    sym (ap (λ (n : ℕ). row_of (drop n cs)) h.1) ∙ first

pub one_row : (cs : Chunks) (starts : List ℕ) (row signal : Bits) → AreStarts (length cs) (reverse starts) → shown cs starts ≡ row ∷ [] → signal ≡ reverse (row_of cs) → signal ≡ reverse row
one_row cs starts row signal h e s = s ∙ ap (λ (x : Bits). reverse x) (one cs row (reverse starts) h e)

pub at_start : (cs : Chunks) (k : ℕ) (signal : Bits) → k ≤ 0 → signal ≡ reverse (row_of (drop k cs)) → signal ≡ reverse (row_of cs)
at_start cs zero signal h e = e
at_start cs (suc k) signal h e = absurd (omega arith)

-- ---- slices

middle : (p m s : Bits) → take (length m) (drop (length s) (reverse (p ++ (m ++ s)))) ≡ reverse m
middle p m s =
    ap (λ (x : Bits). take (length m) (drop (length s) x))
    (reverse-append p (m ++ s) ∙ ap (λ (x : Bits). x ++ reverse p) (reverse-append m s) ∙ append_assoc (reverse s) (reverse m) (reverse p))
    ∙ ap (λ (x : Bits). take (length m) x) (drop_at (reverse s) (reverse m ++ reverse p) (length s) (length-reverse s))
    ∙ take_at (reverse m) (reverse p) (length m) (length-reverse m)

-- a slice, read from the lowest bit
pub slice_turned : (row : Bits) (high low : ℕ) → low ≤ high → high < length row → reverse (take (high - low + 1) (drop low (reverse row))) ≡ slice_row row high low
slice_turned row high low le lt =
    let a : ℕ = length row - (high + 1) in
    let k : ℕ = high + 1 - low in
    let p : Bits = take a row in
    let m : Bits = take k (drop a row) in
    let s : Bits = drop k (drop a row) in
    let split : p ++ (m ++ s) ≡ row = ap (λ (x : Bits). p ++ x) (take-append-drop k (drop a row)) ∙ take-append-drop a row in
    let m_long : length m ≡ high - low + 1 = omega (arith, length-take k (drop a row), length-drop a row, le, lt) in
    let s_long : length s ≡ low = omega (arith, length-drop k (drop a row), length-drop a row, le, lt) in
    ap (λ (n : ℕ). reverse (take n (drop low (reverse row)))) (sym m_long)
    ∙ ap (λ (n : ℕ). reverse (take (length m) (drop n (reverse row)))) (sym s_long)
    ∙ ap (λ (x : Bits). reverse (take (length m) (drop (length s) (reverse x)))) (sym split)
    ∙ ap (λ (x : Bits). reverse x) (middle p m s)
    ∙ reverse-reverse m

turned_row : (cs : Chunks) → row_of (reverse cs) ≡ reverse (bits_of cs)
turned_row [] = refl
turned_row (c ∷ cs) =
    ap (λ (x : Chunks). row_of x) (reverse-append (c ∷ []) cs)
    ∙ row_append (reverse cs) (c ∷ [])
    ∙ ap (λ (x : Bits). row_of (reverse cs) ++ x) (append-nil (falling c))
    ∙ ap (λ (x : Bits). x ++ falling c) (turned_row cs)
    ∙ sym (reverse-append (chunk_bits c) (bits_of cs))

pub is_sliced : (cs new kept : Chunks) (start high low : ℕ) → start ≤ length cs → low ≤ high → high < length (row_of (drop start cs)) → new ≡ take start cs ++ reverse kept
    → bits_of kept ≡ take (high - low + 1) (drop low (reverse (row_of (drop start cs)))) → IsSliced start high low cs new
is_sliced cs new kept start high low inside le lt e b =
    let short : length (take start cs) ≡ start = omega (arith, length-take start cs, inside) in
    record {
      before = rw e (take_at (take start cs) (reverse kept) start short);
      short = rw e (omega (arith, short, length-append (take start cs) (reverse kept)));
      row =
          ap (λ (x : Chunks). row_of (drop start x)) e
          ∙ ap (λ (x : Chunks). row_of x) (drop_at (take start cs) (reverse kept) start short)
          ∙ turned_row kept ∙ ap (λ (x : Bits). reverse x) b ∙ slice_turned (row_of (drop start cs)) high low le lt;
    }

sliced_in : (cs new : Chunks) (start high low : ℕ) (rs : List ℕ) → ((s : ℕ) (ss : List ℕ) → rs ≡ s ∷ ss → start ≡ s) → IsSliced start high low cs new
    → (row : Bits) (rows : List Bits) → map row_of (rows_of cs rs) ≡ row ∷ rows → map row_of (rows_of new rs) ≡ slice_row row high low ∷ rows
sliced_in cs new start high low [] at h row rows e = absurd cc
sliced_in cs new start high low (s ∷ rs) at h row rows e =
    let same : start ≡ s = at s rs refl in
    let first : row_of (drop s cs) ≡ row = cc in
    let others : map row_of (rows_of (take s cs) rs) ≡ rows = cc in
    let now : row_of (drop s new) ≡ slice_row row high low = subst (λ (n : ℕ). row_of (drop n new) ≡ slice_row (row_of (drop n cs)) high low) same h.row ∙ ap (λ (x : Bits). slice_row x high low) first in
    let before : take s new ≡ take s cs = subst (λ (n : ℕ). take n new ≡ take n cs) same h.before in
    ap (λ (x : Bits). x ∷ map row_of (rows_of (take s new) rs)) now
    ∙ ap (λ (x : Chunks). slice_row row high low ∷ map row_of (rows_of x rs)) before
    ∙ ap (λ (x : List Bits). slice_row row high low ∷ x) others

-- the first of the turned list is the last
first_turned : (starts : List ℕ) (d s : ℕ) (ss : List ℕ) → reverse starts ≡ s ∷ ss → get_or starts (length starts - 1) d ≡ s
first_turned starts d s ss e =
    let some : 0 < length starts = omega (arith, ap (λ (x : List ℕ). length x) e, length-reverse starts) in
    let place : length starts - 1 - 0 ≡ length starts - 1 = omega arith in
    sym (ap (λ (n : ℕ). get_or starts n d) place) ∙ sym (get_or-reverse starts 0 d some) ∙ ap (λ (x : List ℕ). get_or x 0 d) e

pub sliced_rows : (cs new : Chunks) (starts : List ℕ) (d start high low : ℕ) → start ≡ get_or starts (length starts - 1) d → IsSliced start high low cs new
    → (row : Bits) (rows : List Bits) → shown cs starts ≡ row ∷ rows → shown new starts ≡ slice_row row high low ∷ rows
sliced_rows cs new starts d start high low at h row rows e = sliced_in cs new start high low (reverse starts) (λ s ss g. at ∙ first_turned starts d s ss g) h row rows e

start_in : (cs : Chunks) (rs : List ℕ) (start high : ℕ) → ((s : ℕ) (ss : List ℕ) → rs ≡ s ∷ ss → start ≡ s) → 1 ≤ length rs → AreStarts (length cs) rs
    → ((row : Bits) (rows : List Bits) → map row_of (rows_of cs rs) ≡ row ∷ rows → high < length row) → (start ≤ length cs) × (high < length (row_of (drop start cs)))
start_in cs [] start high at some h inside = absurd (omega arith)
start_in cs (s ∷ rs) start high at some h inside =
    let same : s ≡ start = sym (at s rs refl) in
    subst (λ (n : ℕ). (n ≤ length cs) × (high < length (row_of (drop n cs)))) same (h.0, inside (row_of (drop s cs)) (map row_of (rows_of (take s cs) rs)) refl)

pub start_room : (cs : Chunks) (starts : List ℕ) (d start high : ℕ) → start ≡ get_or starts (length starts - 1) d → 1 ≤ length (shown cs starts) → AreStarts (length cs) (reverse starts)
    → ((row : Bits) (rows : List Bits) → shown cs starts ≡ row ∷ rows → high < length row) → (start ≤ length cs) × (high < length (row_of (drop start cs)))
start_room cs starts d start high at some h inside =
    start_in cs (reverse starts) start high (λ s ss g. at ∙ first_turned starts d s ss g) (omega (arith, some, shown_long cs starts, length-reverse starts)) h inside

starts_at : (n m start : ℕ) (rs : List ℕ) → ((s : ℕ) (ss : List ℕ) → rs ≡ s ∷ ss → start ≡ s) → 1 ≤ length rs → AreStarts n rs → start ≤ m → AreStarts m rs
starts_at n m start [] at some h le = absurd (omega arith)
starts_at n m start (s ∷ rs) at some h le = (omega (arith, at s rs refl, le), h.1)

pub starts_kept : (cs : Chunks) (starts : List ℕ) (m d start : ℕ) → start ≡ get_or starts (length starts - 1) d → 1 ≤ length (shown cs starts) → AreStarts (length cs) (reverse starts) → start ≤ m → AreStarts m (reverse starts)
starts_kept cs starts m d start at some h le =
    starts_at (length cs) m start (reverse starts) (λ s ss g. at ∙ first_turned starts d s ss g) (omega (arith, some, shown_long cs starts, length-reverse starts)) h le

pub if_ok : {X E : Type 0} (r : Result X E) (P Q : X → Type 0) → ((x : X) → P x → Q x) → IfOk r P → IfOk r Q
if_ok (Ok x) P Q f h = f x h
if_ok (Err e) P Q f h = tt

pub bit_pushed : (was now old : Bits) (b : SigBit) (n : ℕ) (x : SigBit) → now ≡ old ++ bits_from b 0 n → was ≡ now ++ x ∷ [] → x ≡ above b n → was ≡ old ++ bits_from b 0 (n + 1)
bit_pushed was now old b n x e p a =
    let next : suc n ≡ n + 1 = omega arith in
    let at : 0 + n ≡ n = omega arith in
    p ∙ ap (λ (l : Bits). l ++ x ∷ []) e ∙ append_assoc old (bits_from b 0 n) (x ∷ [])
    ∙ ap (λ (y : SigBit). old ++ (bits_from b 0 n ++ y ∷ [])) (a ∙ ap (λ (j : ℕ). above b j) (sym at))
    ∙ ap (λ (l : Bits). old ++ l) (sym (bits_more b 0 n)) ∙ ap (λ (j : ℕ). old ++ bits_from b 0 j) next

-- ---- the last row

below_in : (cs new : Chunks) (start : ℕ) (bit : SigBit) (rs : List ℕ) → ((s : ℕ) (ss : List ℕ) → rs ≡ s ∷ ss → start ≡ s) → take start new ≡ take start cs
    → row_of (drop start new) ≡ row_of (drop start cs) ++ bit ∷ [] → (row : Bits) (rows : List Bits) → map row_of (rows_of cs rs) ≡ row ∷ rows → map row_of (rows_of new rs) ≡ (row ++ bit ∷ []) ∷ rows
below_in cs new start bit [] at before below row rows e = absurd cc
below_in cs new start bit (s ∷ rs) at before below row rows e =
    let same : start ≡ s = at s rs refl in
    let first : row_of (drop s cs) ≡ row = cc in
    let others : map row_of (rows_of (take s cs) rs) ≡ rows = cc in
    let now : row_of (drop s new) ≡ row ++ bit ∷ [] = subst (λ (n : ℕ). row_of (drop n new) ≡ row_of (drop n cs) ++ bit ∷ []) same below ∙ ap (λ (x : Bits). x ++ bit ∷ []) first in
    let kept : take s new ≡ take s cs = subst (λ (n : ℕ). take n new ≡ take n cs) same before in
    ap (λ (x : Bits). x ∷ map row_of (rows_of (take s new) rs)) now
    ∙ ap (λ (x : Chunks). (row ++ bit ∷ []) ∷ map row_of (rows_of x rs)) kept
    ∙ ap (λ (x : List Bits). (row ++ bit ∷ []) ∷ x) others

-- a bit below the last row
pub below_rows : (cs new : Chunks) (starts : List ℕ) (d start : ℕ) (bit : SigBit) → start ≡ get_or starts (length starts - 1) d → take start new ≡ take start cs
    → row_of (drop start new) ≡ row_of (drop start cs) ++ bit ∷ [] → (row : Bits) (rows : List Bits) → shown cs starts ≡ row ∷ rows → shown new starts ≡ (row ++ bit ∷ []) ∷ rows
below_rows cs new starts d start bit at before below row rows e =
    below_in cs new start bit (reverse starts) (λ s ss g. at ∙ first_turned starts d s ss g) before below row rows e
