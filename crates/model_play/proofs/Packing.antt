-- Rows that stand one after the other, flat or packed.
use Rattle.std.proofs.Common.{◌≡◌, ℕ, zero, suc, ◌+◌, ◌*◌, ◌/◌, ◌%◌, ◌^◌, ◌<◌, ◌≤◌, false, List, [], ◌∷◌, Some, refl, sym, ap, ◌∙◌, arith, length, take, drop, get_or, min, inl, inr, ◌++◌, length-append}
use Rattle.std.specs.Prelude.{eqb, slice_get}
use Rattle.std.proofs.lemmas.Bool.{cases_lt}
use Rattle.std.proofs.lemmas.List.{drop-drop, get_or-drop, get_or-take, get_or_append_left, take_all}
use Rattle.std.proofs.Math.Nat.{div-add-mod}
use Rattle.std.proofs.Math.Seq.{get_or-append_seam}
use Rattle.std.proofs.lemmas.List.FromFn.{get_or-map-range_with_len, length-map-range_with_len}
use Rattle.sby_bits.specs.Rows.{Row, num}
use Rattle.sby_bits.proofs.Numbers.{num-at}
use Rattle.model_core.proofs.Lists.{below_or_last}
use Rattle.model_play.specs.Packed.{packed_bit, packed_row, packed_rows, rows_of, words_of}

pub length-rows_of : (width n : ℕ) (bits : Row) → length (rows_of width n bits) ≡ n
length-rows_of width zero bits = refl
length-rows_of width (suc n) bits = ap suc (length-rows_of width n (drop width bits))

-- row t begins at t times the width
pub row_at_place : (width n t : ℕ) (bits : Row) → t < n → slice_get (rows_of width n bits) t ≡ Some (take width (drop (t * width) bits))
row_at_place width zero t bits h = absurd (omega arith)
row_at_place width (suc n) zero bits h = let z : 0 * width ≡ 0 = omega arith in rw z refl
row_at_place width (suc n) (suc t) bits h =
    let z : width + t * width ≡ suc t * width = grind arith in
    row_at_place width n t (drop width bits) (omega arith) ∙ ap (λ (xs : Row). Some (take width xs)) (drop-drop (t * width) width bits ∙ ap (λ (k : ℕ). drop k bits) z)

pub row_inside : (width n t most : ℕ) → t < n → most ≡ n * width → t * width + width ≤ most
row_inside width n t most h e = grind arith

pub length-packed_rows : (words : List ℕ) (width n : ℕ) → length (packed_rows words width n) ≡ n
length-packed_rows words width n = length-map-range_with_len (λ (t : ℕ). packed_row words width (t * words_of width)) 0 n

pub packed_rows-at : (words : List ℕ) (width n t : ℕ) (d : Row) → t < n → get_or (packed_rows words width n) t d ≡ packed_row words width (t * words_of width)
packed_rows-at words width n t d h = get_or-map-range_with_len (λ (i : ℕ). packed_row words width (i * words_of width)) 0 n t t d h (omega arith)

pub length-packed_row : (words : List ℕ) (width from : ℕ) → length (packed_row words width from) ≡ width
length-packed_row words width from = length-map-range_with_len (packed_bit words from) 0 width

pub packed_row-at : (words : List ℕ) (width from p : ℕ) → p < width → get_or (packed_row words width from) p false ≡ packed_bit words from p
packed_row-at words width from p h = get_or-map-range_with_len (packed_bit words from) 0 width p p false h (omega arith)

-- the word of a place is one of those that the row takes
place_below : (place width : ℕ) → place < width → place / 64 < words_of width
place_below place width h = omega arith

pub word_inside : (width cycles cycle place most : ℕ) → cycle < cycles → place < width → most ≡ cycles * words_of width → cycle * words_of width + place / 64 < most
word_inside width cycles cycle place most h l e =
    let inside = row_inside (words_of width) cycles cycle most h e in
    let below = place_below place width l in
    omega (arith, inside, below)

-- words of a row that were pushed
pub record ArePushed (old words : List ℕ) (row : Row) (k : ℕ) : Type 0 where
  pub size : length words ≡ length old + k
  pub pushed : (j : ℕ) → j < k → get_or words (length old + j) 0 ≡ num (take 64 (drop (64 * j) row))
  pub before : (j : ℕ) → j < length old → get_or words j 0 ≡ get_or old j 0

pub pushed_more : (old words new : List ℕ) (row : Row) (k w : ℕ) → ArePushed old words row k → new ≡ words ++ w ∷ [] → w ≡ num (take 64 (drop (64 * k) row)) → ArePushed old new row (k + 1)
pushed_more old words new row k w was e ew =
    let n = was.size in
    let seam : length old + k ≡ length words = omega arith in
    rw e (record {
      size = omega (arith, length-append words (w ∷ []));
      pushed = λ j l. elim (below_or_last j k l) as (λ _. get_or (words ++ w ∷ []) (length old + j) 0 ≡ num (take 64 (drop (64 * j) row))) [
        | inl h ↦ get_or_append_left words (w ∷ []) 0 (length old + j) (omega arith) ∙ was.pushed j h
        | inr h ↦
            ap (λ (i : ℕ). get_or (words ++ w ∷ []) (length old + i) 0) h ∙ ap (λ (i : ℕ). get_or (words ++ w ∷ []) i 0) seam
            ∙ get_or-append_seam words w [] 0 ∙ ew ∙ ap (λ (i : ℕ). num (take 64 (drop (64 * i) row))) (sym h)
      ];
      before = λ j l. get_or_append_left words (w ∷ []) 0 j (omega arith) ∙ was.before j l;
    })

pub taken_word : (xs : Row) (k : ℕ) → k ≡ min 64 (length xs) → take k xs ≡ take 64 xs
taken_word xs k e = elim (cases_lt (length xs) 64) as (λ _. take k xs ≡ take 64 xs) [
  | inl h ↦ take_all k xs (omega arith) ∙ sym (take_all 64 xs (omega arith))
  | inr h ↦ let z : k ≡ 64 = omega arith in ap (λ (i : ℕ). take i xs) z
]

pub packed_read : (words : List ℕ) (row : Row) (from count p : ℕ) → ((j : ℕ) → j < count → get_or words (from + j) 0 ≡ num (take 64 (drop (64 * j) row))) → p / 64 < count
    → packed_bit words from p ≡ get_or row p false
packed_read words row from count p h l =
    let r = take 64 (drop (64 * (p / 64)) row) in
    let low : p % 64 < 64 = omega arith in
    ap (λ (x : ℕ). eqb (x / 2 ^ (p % 64) % 2) 1) (h (p / 64) l) ∙ sym (num-at r (p % 64)) ∙ get_or-take 64 (drop (64 * (p / 64)) row) (p % 64) false low
    ∙ get_or-drop (64 * (p / 64)) row (p % 64) false ∙ ap (λ (i : ℕ). get_or row i false) (div-add-mod p 64)

pub any_default : (xs : List ℕ) (i d e : ℕ) → i < length xs → get_or xs i d ≡ get_or xs i e
any_default [] i d e h = absurd (omega arith)
any_default (x ∷ xs) zero d e h = refl
any_default (x ∷ xs) (suc i) d e h = any_default xs i d e (omega arith)
