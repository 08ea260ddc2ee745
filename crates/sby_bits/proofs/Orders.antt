-- Rows and tests of their numbers.
use Rattle.std.proofs.Common.{◌≡◌, ℕ, suc, ◌+◌, ◌*◌, ◌^◌, ◌<◌, Bool, true, false, cond, not, ltb, [], ◌∷◌, length, take, get_or, refl, sym, ◌∙◌, ap, arith}
use Rattle.std.proofs.lemmas.Bool.Decides.{nat_tests}
use Rattle.std.proofs.lemmas.Int.{ints}
use Rattle.std.proofs.Math.Nat.{pow-suc}
use Rattle.std.proofs.Math.Bool.{beq}
use Rattle.std.specs.Prelude.{pos, ◌-ℤ◌, int_lt}
use Rattle.std.specs.List.{list_any}
use Rattle.sby_bits.specs.Rows.{Row, num, top_bit, snum}
use Rattle.sby_bits.specs.Words.{every_bit, some_bit}
use Rattle.sby_bits.proofs.Numbers.{num-lt, num-take, num-take-lt}

one_more : (x y p : ℕ) (b c : Bool) → x < p → y < p → ltb (x + cond b p 0) (y + cond c p 0) ≡ cond b (cond c (ltb x y) false) (cond c true (ltb x y))
one_more x y p true true h k = grind (arith, nat_tests)
one_more x y p true false h k = grind (arith, nat_tests)
one_more x y p false true h k = grind (arith, nat_tests)
one_more x y p false false h k = grind (arith, nat_tests)

-- the highest bit in which two rows differ decides
below_more : (a b : Row) (i : ℕ) → i < length a → i < length b → ltb (num (take (i + 1) a)) (num (take (i + 1) b)) ≡ cond (get_or a i false) (cond (get_or b i false) (ltb (num (take i a)) (num (take i b))) false) (cond (get_or b i false) true (ltb (num (take i a)) (num (take i b))))
below_more a b i h k =
    rw (num-take a i h, num-take b i k)
    (one_more (num (take i a)) (num (take i b)) (2 ^ i) (get_or a i false) (get_or b i false)
    (num-take-lt a i (omega arith)) (num-take-lt b i (omega arith)))

changed : (s t below : Bool) → not (beq s t) ≡ true → t ≡ cond s (cond t below false) (cond t true below)
changed true true below h = cc
changed true false below h = refl
changed false true below h = refl
changed false false below h = cc

kept : (s t below : Bool) → not (beq s t) ≡ false → below ≡ cond s (cond t below false) (cond t true below)
kept true true below h = refl
kept true false below h = cc
kept false true below h = cc
kept false false below h = refl

pub below_changed : (a b : Row) (i : ℕ) → i < length a → i < length b → not (beq (get_or a i false) (get_or b i false)) ≡ true → get_or b i false ≡ ltb (num (take (i + 1) a)) (num (take (i + 1) b))
below_changed a b i h k differ =
    changed (get_or a i false) (get_or b i false) (ltb (num (take i a)) (num (take i b))) differ ∙ sym (below_more a b i h k)

pub below_kept : (a b : Row) (i : ℕ) → i < length a → i < length b → not (beq (get_or a i false) (get_or b i false)) ≡ false → ltb (num (take i a)) (num (take i b)) ≡ ltb (num (take (i + 1) a)) (num (take (i + 1) b))
below_kept a b i h k agree =
    kept (get_or a i false) (get_or b i false) (ltb (num (take i a)) (num (take i b))) agree ∙ sym (below_more a b i h k)

-- numbers in two's complement, by their signs
signed_below : (m n p : ℕ) (s t : Bool) → m < p → n < p → int_lt (cond s (pos m -ℤ pos p) (pos m)) (cond t (pos n -ℤ pos p) (pos n)) ≡ cond s (cond t (ltb m n) true) (cond t false (ltb m n))
signed_below m n p true true h k = grind (arith, ints, nat_tests)
signed_below m n p true false h k = grind (arith, ints, nat_tests)
signed_below m n p false true h k = grind (arith, ints, nat_tests)
signed_below m n p false false h k = refl

pub snum-lt : (a b : Row) → length a ≡ length b → int_lt (snum a) (snum b) ≡ cond (top_bit a) (cond (top_bit b) (ltb (num a) (num b)) true) (cond (top_bit b) false (ltb (num a) (num b)))
snum-lt a b e =
    let low : num a < 2 ^ length b = rw e at (num-lt a) in
    rw e (signed_below (num a) (num b) (2 ^ length b) (top_bit a) (top_bit b) low (num-lt b))

differs : (s t below : Bool) → not (beq s t) ≡ true → s ≡ cond s (cond t below true) (cond t false below)
differs true true below h = cc
differs true false below h = refl
differs false true below h = refl
differs false false below h = cc

-- where the signs differ, the row with its last bit set is below
pub top_decides : (a b : Row) → length a ≡ length b → not (beq (top_bit a) (top_bit b)) ≡ true → top_bit a ≡ int_lt (snum a) (snum b)
top_decides a b e h = differs (top_bit a) (top_bit b) (ltb (num a) (num b)) h ∙ sym (snum-lt a b e)

-- rows of one length have one number only where they are one
pub num-same : (a b : Row) → length a ≡ length b → num a ≡ num b → a ≡ b
num-same [] [] e same = refl
num-same [] (c ∷ b) e same = absurd (omega arith)
num-same (c ∷ a) [] e same = absurd (omega arith)
num-same (true ∷ a) (true ∷ b) e same = ap (λ (r : Row). true ∷ r) (num-same a b (omega arith) (omega arith))
num-same (true ∷ a) (false ∷ b) e same = absurd (omega arith)
num-same (false ∷ a) (true ∷ b) e same = absurd (omega arith)
num-same (false ∷ a) (false ∷ b) e same = ap (λ (r : Row). false ∷ r) (num-same a b (omega arith) (omega arith))

pub all-every : (a : Row) → not (list_any (λ (b : Bool). beq b false) a) ≡ every_bit a
all-every [] = refl
all-every (true ∷ a) = let p : 2 ^ suc (length a) ≡ 2 ^ length a * 2 = pow-suc 2 (length a) in all-every a ∙ grind (arith, nat_tests)
all-every (false ∷ a) = let p : 2 ^ suc (length a) ≡ 2 ^ length a * 2 = pow-suc 2 (length a) in grind (arith, nat_tests)

pub any-some : (a : Row) → list_any (λ (b : Bool). beq b true) a ≡ some_bit a
any-some [] = refl
any-some (true ∷ a) = grind (arith, nat_tests)
any-some (false ∷ a) = any-some a ∙ grind (arith, nat_tests)
