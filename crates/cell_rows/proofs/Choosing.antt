-- Rows that are compared and chosen.
use Rattle.std.proofs.Common.{◌≡◌, ℕ, zero, suc, ◌+◌, ◌*◌, ◌^◌, ◌<◌, ◌≤◌, Bool, true, false, cond, not, eqb, ◌&&◌, [], ◌∷◌, take, drop, length, get_or, refl, sym, ◌∙◌, ap, arith}
use Rattle.std.specs.Prelude.{int_lt}
use Rattle.std.specs.Bool.{beq}
use Rattle.std.proofs.lemmas.Bool.{true≢false, eq-eqb, eqb-true}
use Rattle.std.proofs.lemmas.Bool.Decides.{nat_tests}
use Rattle.std.proofs.lemmas.List.{ext_get_or}
use Rattle.sby_bits.specs.Rows.{Row, ext, num, top_bit, value}
use Rattle.sby_bits.specs.Words.{some_bit}
use Rattle.sby_bits.proofs.Numbers.{length-fit, num-lt}
use Rattle.sby_bits.proofs.Orders.{num-same}
use Rattle.sby_bits.proofs.RowLaws.{extended_bits, extended_longer}
use Rattle.std.proofs.lemmas.Nat.{mul-le}
use Rattle.cell_table.specs.Cells.{lowest_set, pmux_fn}

pub below_of : (u v m n : ℕ) (a b p q : Row) (s : Bool) → m ≡ u → n ≡ v → length a ≤ u → length b ≤ v → p ≡ ext a s m → q ≡ ext b s n → int_lt (value s p) (value s q) ≡ int_lt (value s a) (value s b)
below_of u v m n a b p q s mu nv la lb pa qb = rw (pa, qb, extended_longer a s m (omega arith), extended_longer b s n (omega arith)) refl

pub num-drop-le : (s : Row) (k : ℕ) → num (drop k s) ≤ num s
num-drop-le s zero = omega arith
num-drop-le [] (suc k) = omega arith
num-drop-le (b ∷ s) (suc k) = let h = num-drop-le s k in omega arith

pub num-drop : (s : Row) (k : ℕ) → k < length s → num (drop k s) ≡ cond (get_or s k false) 1 0 + 2 * num (drop (suc k) s)
num-drop [] k h = absurd (omega arith)
num-drop (b ∷ s) zero h = refl
num-drop (b ∷ s) (suc k) h = num-drop s k (omega arith)

pub none_set : (s : Row) → ((k : ℕ) → k < length s → get_or s k false ≡ false) → some_bit s ≡ false
none_set [] h = refl
none_set (true ∷ s) h = absurd (true≢false (h 0 (omega arith)))
none_set (false ∷ s) h = doubled (num s) (none_set s (λ k l. h (suc k) (omega arith)))
  where
    doubled : (n : ℕ) → not (eqb n 0) ≡ false → not (eqb (0 + 2 * n) 0) ≡ false
    doubled n e = grind (arith, nat_tests)

pub record IsLowest (s : Row) (i : ℕ) : Type 0 where
  pub some : some_bit s ≡ true
  pub place : lowest_set s ≡ i

pub lowest_at : (s : Row) (i : ℕ) → i < length s → get_or s i false ≡ true → ((k : ℕ) → k < i → get_or s k false ≡ false) → IsLowest s i
lowest_at [] i h e n = absurd (omega arith)
lowest_at (true ∷ s) zero h e n = record { some = one (num s); place = refl }
  where
    one : (n : ℕ) → not (eqb (1 + 2 * n) 0) ≡ true
    one n = grind (arith, nat_tests)
lowest_at (true ∷ s) (suc i) h e n = absurd (true≢false (n 0 (omega arith)))
lowest_at (false ∷ s) zero h e n = absurd (true≢false (sym e))
lowest_at (false ∷ s) (suc i) h e n =
    let below = lowest_at s i (omega arith) e (λ k l. n (suc k) (omega arith)) in
    record { some = doubled (num s) below.some; place = ap suc below.place }
  where
    doubled : (n : ℕ) → not (eqb n 0) ≡ true → not (eqb (0 + 2 * n) 0) ≡ true
    doubled n e = grind (arith, nat_tests)

module _ (w : ℕ) (a b : Row) (s p q : Bool) (pa : p ≡ (s && top_bit a)) (qb : q ≡ (s && top_bit b)) where
  at_a : (k : ℕ) → k < w → get_or (ext a s w) k false ≡ get_or a k p
  at_a k l = extended_bits a s w k l ∙ ap (get_or a k) (sym pa)

  at_b : (k : ℕ) → k < w → get_or (ext b s w) k false ≡ get_or b k q
  at_b k l = extended_bits b s w k l ∙ ap (get_or b k) (sym qb)

  la : length (ext a s w) ≡ w
  la = length-fit w (value s a)

  lb : length (ext b s w) ≡ w
  lb = length-fit w (value s b)

  pub same_rows : ((k : ℕ) → k < w → get_or a k p ≡ get_or b k q) → true ≡ eqb (num (ext a s w)) (num (ext b s w))
  same_rows h =
      let one : ext a s w ≡ ext b s w = ext_get_or false (ext a s w) (ext b s w) (la ∙ sym lb) (λ k l. at_a k (omega (arith, la)) ∙ h k (omega (arith, la)) ∙ sym (at_b k (omega (arith, la)))) in
      sym (eq-eqb (num (ext a s w)) (num (ext b s w)) (ap num one))

  pub other_rows : (k : ℕ) → k < w → (get_or a k p ≡ get_or b k q → ⊥) → false ≡ eqb (num (ext a s w)) (num (ext b s w))
  other_rows k l h = by_value (eqb (num (ext a s w)) (num (ext b s w))) refl
    where
      by_value : (v : Bool) → v ≡ eqb (num (ext a s w)) (num (ext b s w)) → false ≡ v
      by_value false e = refl
      by_value true e = absurd (h (sym (at_a k l) ∙ ap (λ (r : Row). get_or r k false) (num-same (ext a s w) (ext b s w) (la ∙ sym lb) (eqb-true (num (ext a s w)) (num (ext b s w)) (sym e))) ∙ at_b k l))

  pub unequal : (k : ℕ) (x y : Bool) → k < w → x ≡ get_or a k p → y ≡ get_or b k q → not (beq x y) ≡ true → false ≡ eqb (num (ext a s w)) (num (ext b s w))
  unequal k x y l e f d = other_rows k l (λ h. differ x y d (e ∙ h ∙ sym f))
    where
      differ : (x y : Bool) → not (beq x y) ≡ true → x ≡ y → ⊥
      differ true true d e = true≢false (sym d)
      differ false false d e = true≢false (sym d)
      differ true false d e = true≢false e
      differ false true d e = true≢false (sym e)

module _ (y : ℕ) (a b s : Row) where
  pub pmux_none : ((k : ℕ) → k < length s → get_or s k false ≡ false) → a ≡ pmux_fn y a b s
  pmux_none h = rw (none_set s h) refl

  pub pmux_some : (i : ℕ) → i < length s → get_or s i false ≡ true → ((k : ℕ) → k < i → get_or s k false ≡ false) → take y (drop (y * i) b) ≡ pmux_fn y a b s
  pmux_some i h e n = let w = lowest_at s i h e n in rw (w.some, w.place) refl

-- the slice that a select counts lies within its word
pub slice_within : (y i n b : ℕ) → i < n → b ≡ y * n → y * i + y ≤ b
slice_within y i n b h e = let p : y * suc i ≤ y * n = mul-le y (suc i) y n (omega arith) h in let q : y * suc i ≡ y * i + y = omega arith in omega arith

pub counted : (y n b : ℕ) → 1 ≤ y → b ≡ y * n → n ≤ b
counted y n b h e = let p : 1 * n ≤ y * n = mul-le 1 n y n h (omega arith) in omega arith

pub number_step : (s : Row) (k j : ℕ) (b : Bool) → j ≡ k + 1 → k < length s → b ≡ get_or s k false → cond b 1 0 + 2 * num (drop j s) ≡ num (drop k s)
number_step s k j b e h g = ap (λ (i : ℕ). cond b 1 0 + 2 * num (drop i s)) {x = j} {y = suc k} (omega arith) ∙ ap (λ (t : Bool). cond t 1 0 + 2 * num (drop (suc k) s)) g ∙ sym (num-drop s k h)

pub number_small : (s : Row) (k j m : ℕ) (b : Bool) → j ≡ k + 1 → k < length s → b ≡ get_or s k false → 2 ^ length s ≤ m → cond b 1 0 + 2 * num (drop j s) < m
number_small s k j m b e h g l = let p = number_step s k j b e h g in let q = num-drop-le s k in let r = num-lt s in omega arith
