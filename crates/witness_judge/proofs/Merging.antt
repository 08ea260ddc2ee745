-- The bits of some places among those of all.
use Rattle.std.proofs.Common.{◌≡◌, ℕ, zero, suc, ◌+◌, ◌*◌, ◌<◌, ◌≤◌, Bool, false, List, [], ◌∷◌, ◌++◌, length, map, take, drop, refl, sym, ap, ◌∙◌, subst, arith, length-append, length-drop}
use Rattle.std.specs.Prelude.{All, slice_index_or}
use Rattle.std.proofs.lemmas.List.{drop-drop, drop-append-le, drop_at, length-map, map-append, take-append-le, take_all}
use Rattle.sby_bits.specs.Rows.{Row}
use Rattle.model_play.specs.Packed.{rows_of}
use Rattle.witness_judge.specs.Choosing.{bit_for}

-- the bits that were laid are those for their places
pub laid_all : (values : Row) (n : ℕ) (read all : List ℕ) (row : Row) → All (λ p. p < n) all → ((p : ℕ) → p < n → slice_index_or values p false ≡ bit_for read row p)
    → map (λ p. slice_index_or values p false) all ≡ map (bit_for read row) all
laid_all values n read [] row inside laid = refl
laid_all values n read (p ∷ ps) row inside laid =
    ap (λ (b : Bool). b ∷ map (λ q. slice_index_or values q false) ps) (laid p (inside 0 0 (omega arith)))
    ∙ ap (λ (bs : Row). bit_for read row p ∷ bs) (laid_all values n read ps row (λ k d lt. inside (suc k) d (omega (arith, lt))) laid)

-- one more row of those that stand one after the other
pub rows_more : (width n : ℕ) (bits : Row) → rows_of width (n + 1) bits ≡ rows_of width n bits ++ take width (drop (n * width) bits) ∷ []
rows_more width zero bits = let z : 0 * width ≡ 0 = omega arith in rw z refl
rows_more width (suc n) bits =
    let z : width + n * width ≡ suc n * width = grind arith in
    let e = rows_more width n (drop width bits) in
    let f : suc n + 1 ≡ suc (n + 1) = omega arith in
    let g : drop (n * width) (drop width bits) ≡ drop (suc n * width) bits = drop-drop (n * width) width bits ∙ ap (λ (k : ℕ). drop k bits) z in
    ap (λ (k : ℕ). rows_of width k bits) f ∙ ap (λ (rs : List Row). take width bits ∷ rs) (e ∙ ap (λ (r : Row). rows_of width n (drop width bits) ++ take width r ∷ []) g)

rows_front : (width n : ℕ) (bits rest : Row) → length bits ≡ n * width → rows_of width n (bits ++ rest) ≡ rows_of width n bits
rows_front width zero bits rest e = refl
rows_front width (suc n) bits rest e =
    let z : width + n * width ≡ suc n * width = grind arith in
    let l : width ≤ length bits = omega arith in
    let d = length-drop width bits in
    ap (λ (r : Row). r ∷ rows_of width n (drop width (bits ++ rest))) (take-append-le width bits rest l)
    ∙ ap (λ (r : Row). take width bits ∷ rows_of width n r) (drop-append-le width bits rest l)
    ∙ ap (λ (rs : List Row). take width bits ∷ rs) (rows_front width n (drop width bits) rest (omega arith))

-- one more row of all places' bits
module _ (all read : List ℕ) (rows bits new : Row) (k first width : ℕ) where
  abbrev all_bits : Row → Row
  all_bits row = map (bit_for read row) all

  pub record IsPushed : Type 0 where
    pub long : length new ≡ (k + 1) * length all
    pub same : rows_of (length all) (k + 1) new ≡ map all_bits (rows_of (length read) (k + 1) rows)

  pub rows_pushed : length bits ≡ k * length all → rows_of (length all) k bits ≡ map all_bits (rows_of (length read) k rows) → first ≡ k * length read → width ≡ length read
      → new ≡ bits ++ all_bits (take width (drop first rows)) → IsPushed
  rows_pushed len before at wide e = record {
    long =
        let a = ap (λ (r : Row). length r) e in
        let b = length-append bits row in
        let w : length (all_bits (take width (drop first rows))) ≡ length all = length-map all (bit_for read (take width (drop first rows))) in
        let z : (k + 1) * length all ≡ k * length all + length all = grind arith in
        omega arith;
    same =
        rows_more (length all) k new
        ∙ ap (λ (r : Row). rows_of (length all) k r ++ take (length all) (drop (k * length all) r) ∷ []) e
        ∙ ap (λ (rs : List Row). rs ++ take (length all) (drop (k * length all) (bits ++ row)) ∷ []) (rows_front (length all) k bits row len ∙ before)
        ∙ ap (λ (r : Row). map all_bits (rows_of (length read) k rows) ++ r ∷ []) last
        ∙ sym (ap (map all_bits) (rows_more (length read) k rows) ∙ map-append all_bits (rows_of (length read) k rows) (part ∷ []));
  }
    where
      part : Row
      part = take (length read) (drop (k * length read) rows)

      row : Row
      row = all_bits (take width (drop first rows))

      wide_row : length row ≡ length all
      wide_row = length-map all (bit_for read (take width (drop first rows)))

      is_part : take width (drop first rows) ≡ part
      is_part = ap (λ (n : ℕ). take n (drop first rows)) wide ∙ ap (λ (n : ℕ). take (length read) (drop n rows)) at

      last : take (length all) (drop (k * length all) (bits ++ row)) ≡ all_bits part
      last = ap (take (length all)) (drop_at bits row (k * length all) len) ∙ take_all (length all) row (subst (λ (n : ℕ). n ≤ length all) (sym wide_row) (omega arith)) ∙ ap all_bits is_part
