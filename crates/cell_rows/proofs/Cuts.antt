-- Rows of numbers that were cut before they are added, subtracted or multiplied.
use Rattle.std.proofs.Common.{◌≡◌, ℕ, zero, suc, ◌+◌, ◌-◌, ◌*◌, ◌/◌, ◌%◌, ◌^◌, ◌<◌, ◌≤◌, length, sym, ◌∙◌, ap, subst, arith, refl}
use Rattle.std.specs.Prelude.{ℤ, pos, negsuc, ◌+ℤ◌, ◌-ℤ◌, ◌*ℤ◌}
use lib.IntN.{neg_ℤ, negsuc-*ℤ-pos, pos-*ℤ-negsuc}
use Rattle.std.proofs.lemmas.Int.{ints}
use Rattle.std.proofs.lemmas.Nat.{pow_pos, mod_below}
use Rattle.std.proofs.Math.Nat.{mul_comm, mul-add, div-add-mod, add-mul-mod_self_left, mod-eq_of_lt}
use Rattle.sby_bits.specs.Rows.{Row, num, residue, low_bits, fit}
use Rattle.sby_bits.proofs.Numbers.{num-lt, length-fit}
use Rattle.sby_bits.proofs.Residues.{fit-residue}
use Rattle.sby_bits.proofs.RowLaws.{num-fit, row_again}

-- z and m are the same, but for whole multiples of d
pub record Near (d : ℕ) (z : ℤ) (m : ℕ) : Type 0 where
  pub up : ℕ
  pub over : ℕ
  pub same : z +ℤ pos (d * up) ≡ pos (m + d * over)

positive : (n d q r : ℕ) → q + r ≡ n → pos n +ℤ pos (d * 0) ≡ pos (r + q)
positive n d q r e = let z : d * 0 ≡ 0 = omega arith in rw z (omega (arith, ints))

negative : (n d r dq s z : ℕ) → dq + r ≡ n → r < d → s ≡ dq + d → z ≡ 0 → negsuc n +ℤ pos s ≡ pos ((d - 1 - r) + z)
negative n d r dq s z e h m g = omega (arith, ints)

pub Near-residue : (y : ℕ) (z : ℤ) → Near (2 ^ y) z (residue z (2 ^ y))
Near-residue y (pos n) = record { up = 0; over = n / 2 ^ y; same = positive n (2 ^ y) (2 ^ y * (n / 2 ^ y)) (n % 2 ^ y) (div-add-mod n (2 ^ y)) }
Near-residue y (negsuc n) = record {
  up = n / 2 ^ y + 1;
  over = 0;
  same = negative n (2 ^ y) (n % 2 ^ y) (2 ^ y * (n / 2 ^ y)) (2 ^ y * (n / 2 ^ y + 1)) (2 ^ y * 0) (div-add-mod n (2 ^ y)) (mod_below n (2 ^ y) (pow_pos y)) (mul-add (2 ^ y) (n / 2 ^ y) 1 ∙ omega arith) (omega arith);
}

pub Near-fit : (y : ℕ) (z : ℤ) → Near (2 ^ y) z (num (fit y z))
Near-fit y z = subst (Near (2 ^ y) z) (sym (num-fit y z)) (Near-residue y z)

pub Near-add : (d : ℕ) (a b : ℤ) (m n : ℕ) → Near d a m → Near d b n → Near d (a +ℤ b) (m + n)
Near-add d a b m n p q = record {
  up = p.up + q.up;
  over = p.over + q.over;
  same = sum a b m n (d * p.up) (d * q.up) (d * p.over) (d * q.over) (d * (p.up + q.up)) (d * (p.over + q.over)) (mul-add d p.up q.up) (mul-add d p.over q.over) p.same q.same;
}
  where
    sum : (a b : ℤ) (m n i j k l s t : ℕ) → s ≡ i + j → t ≡ k + l → a +ℤ pos i ≡ pos (m + k) → b +ℤ pos j ≡ pos (n + l) → (a +ℤ b) +ℤ pos s ≡ pos ((m + n) + t)
    sum a b m n i j k l s t e f g h = omega (arith, ints)

pub Near-sub : (d : ℕ) (a b : ℤ) (m n r c : ℕ) → Near d a m → Near d b n → r + d * c + n ≡ m + d → Near d (a -ℤ b) r
Near-sub d a b m n r c p q e = record {
  up = p.up + q.over + 1;
  over = p.over + q.up + c;
  same = difference a b m n r (d * p.up) (d * q.up) (d * p.over) (d * q.over) (d * c) d (d * (p.up + q.over + 1)) (d * (p.over + q.up + c))
      (mul-add d (p.up + q.over) 1 ∙ ap (λ (k : ℕ). k + d * 1) (mul-add d p.up q.over)) (mul-add d (p.over + q.up) c ∙ ap (λ (k : ℕ). k + d * c) (mul-add d p.over q.up)) p.same q.same e;
}
  where
    difference : (a b : ℤ) (m n r i j k l c d s t : ℕ) → s ≡ i + l + d * 1 → t ≡ k + j + c → a +ℤ pos i ≡ pos (m + k) → b +ℤ pos j ≡ pos (n + l) → r + c + n ≡ m + d → (a -ℤ b) +ℤ pos s ≡ pos (r + t)
    difference a b m n r i j k l c d s t e f g h z = omega (arith, ints)

mod_same : (d m k n l : ℕ) → m + d * k ≡ n + d * l → m % d ≡ n % d
mod_same d m k n l e = sym (add-mul-mod_self_left m d k) ∙ ap (λ (i : ℕ). i % d) e ∙ add-mul-mod_self_left n d l

-- two numbers that are near one whole number are near each other
turned : (z : ℤ) (m n i k j l : ℕ) → z +ℤ pos i ≡ pos (m + k) → z +ℤ pos j ≡ pos (n + l) → m + (k + j) ≡ n + (l + i)
turned z m n i k j l e f = omega (arith, ints)

pub Near-one : (d : ℕ) (z : ℤ) (m n : ℕ) → Near d z m → Near d z n → m % d ≡ n % d
Near-one d z m n p q = mod_same d m (p.over + q.up) n (q.over + p.up)
    (ap (λ (i : ℕ). m + i) (mul-add d p.over q.up) ∙ turned z m n (d * p.up) (d * p.over) (d * q.up) (d * q.over) p.same q.same ∙ ap (λ (i : ℕ). n + i) (sym (mul-add d q.over p.up)))

-- a row whose number is near a whole number is that number's row
pub row_near : (r : Row) (y : ℕ) (z : ℤ) → length r ≡ y → Near (2 ^ y) z (num r) → r ≡ fit y z
row_near r y z e p =
    let whole : num r % 2 ^ y ≡ residue z (2 ^ y) % 2 ^ y = Near-one (2 ^ y) z (num r) (residue z (2 ^ y)) p (Near-residue y z) in
    let small : num r < 2 ^ y = subst (λ (n : ℕ). num r < 2 ^ n) e (num-lt r) in
    let below : residue z (2 ^ y) < 2 ^ y = residue-below y z in
    let one : num r ≡ residue z (2 ^ y) = sym (mod-eq_of_lt small) ∙ whole ∙ mod-eq_of_lt below in
    let again : fit y (pos (num r)) ≡ r = subst (λ (m : ℕ). fit m (pos (num r)) ≡ r) e (row_again r) in
    sym again ∙ ap (low_bits y) (mod-eq_of_lt small ∙ one)
  where
    residue-below : (y : ℕ) (z : ℤ) → residue z (2 ^ y) < 2 ^ y
    residue-below y (pos n) = mod_below n (2 ^ y) (pow_pos y)
    residue-below y (negsuc n) = omega (arith, pow_pos y)

-- whole numbers that are near the same number have one row
pub one_row : (y : ℕ) (w z : ℤ) (m : ℕ) → Near (2 ^ y) w m → Near (2 ^ y) z m → fit y w ≡ fit y z
one_row y w z m p q = row_near (fit y w) y z (length-fit y w) (Near-change (2 ^ y) z m (num (fit y w)) q (Near-one (2 ^ y) w m (num (fit y w)) p (Near-fit y w)))
  where
    moved : (d m n : ℕ) → m % d ≡ n % d → m + d * (n / d) ≡ n + d * (m / d)
    moved d m n e = let p = div-add-mod m d in let q = div-add-mod n d in omega arith

    changed : (z : ℤ) (m n i k a b : ℕ) → m + a ≡ n + b → z +ℤ pos i ≡ pos (m + k) → z +ℤ pos (i + a) ≡ pos (n + (k + b))
    changed z m n i k a b e f = omega (arith, ints)

    Near-change : (d : ℕ) (z : ℤ) (m n : ℕ) → Near d z m → m % d ≡ n % d → Near d z n
    Near-change d z m n p e = record {
      up = p.up + n / d;
      over = p.over + m / d;
      same = ap (λ (i : ℕ). z +ℤ pos i) (mul-add d p.up (n / d)) ∙ changed z m n (d * p.up) (d * p.over) (d * (n / d)) (d * (m / d)) (moved d m n e) p.same ∙ ap (λ (i : ℕ). pos (n + i)) (sym (mul-add d p.over (m / d)));
    }

pub Near-pos : (d n : ℕ) → Near d (pos n) n
Near-pos d n = record { up = 0; over = 0; same = refl }

-- a row's number is near the whole number that it was cut from
pub again_fit : (y : ℕ) (z : ℤ) → fit y (pos (num (fit y z))) ≡ fit y z
again_fit y z = one_row y (pos (num (fit y z))) z (num (fit y z)) (Near-pos (2 ^ y) (num (fit y z))) (Near-fit y z)

pub sum_cut : (y : ℕ) (a b : ℤ) → fit y (pos (num (fit y a)) +ℤ pos (num (fit y b))) ≡ fit y (a +ℤ b)
sum_cut y a b = one_row y _ (a +ℤ b) (num (fit y a) + num (fit y b)) (Near-pos (2 ^ y) (num (fit y a) + num (fit y b))) (Near-add (2 ^ y) a b (num (fit y a)) (num (fit y b)) (Near-fit y a) (Near-fit y b))

pub difference_cut : (y : ℕ) (a b : ℤ) → fit y (pos (num (fit y a)) -ℤ pos (num (fit y b))) ≡ fit y (a -ℤ b)
difference_cut y a b =
    let z : ℤ = pos (num (fit y a)) -ℤ pos (num (fit y b)) in
    let p = Near-fit y z in
    one_row y z (a -ℤ b) (num (fit y z)) p (Near-less (2 ^ y) a b (num (fit y a)) (num (fit y b)) (num (fit y z)) (Near-fit y a) (Near-fit y b) p)
  where
    less : (a b : ℤ) (m n r i j k l s t u v : ℕ) → u ≡ i + l + s → v ≡ k + j + t → a +ℤ pos i ≡ pos (m + k) → b +ℤ pos j ≡ pos (n + l) → (pos m -ℤ pos n) +ℤ pos s ≡ pos (r + t) → (a -ℤ b) +ℤ pos u ≡ pos (r + v)
    less a b m n r i j k l s t u v e f g h z = omega (arith, ints)

    Near-less : (d : ℕ) (a b : ℤ) (m n r : ℕ) → Near d a m → Near d b n → Near d (pos m -ℤ pos n) r → Near d (a -ℤ b) r
    Near-less d a b m n r p q w = record {
      up = p.up + q.over + w.up;
      over = p.over + q.up + w.over;
      same = less a b m n r (d * p.up) (d * q.up) (d * p.over) (d * q.over) (d * w.up) (d * w.over) (d * (p.up + q.over + w.up)) (d * (p.over + q.up + w.over))
          (mul-add d (p.up + q.over) w.up ∙ ap (λ (k : ℕ). k + d * w.up) (mul-add d p.up q.over)) (mul-add d (p.over + q.up) w.over ∙ ap (λ (k : ℕ). k + d * w.over) (mul-add d p.over q.up)) p.same q.same w.same;
    }

-- with the products of the four numbers written out
times_pos : (a b m n d i j k l : ℕ) → a + d * i ≡ m + d * k → b + d * j ≡ n + d * l → pos (a * b) +ℤ pos (d * (a * j + i * b + i * (d * j))) ≡ pos (m * n + d * (m * l + k * n + k * (d * l)))
times_pos a b m n d i j k l e f = ap pos (let p : (a + d * i) * (b + d * j) ≡ (m + d * k) * (n + d * l) = ap (λ (t : ℕ). t * (b + d * j)) e ∙ ap (λ (t : ℕ). (m + d * k) * t) f in omega arith)

-- the first one below zero
less_numbers : (a b m n d i j k l : ℕ) → d * i ≡ m + d * k + a → b + d * j ≡ n + d * l → d * (i * b + m * j) ≡ a * b + (m * n + d * (m * l + k * b))
less_numbers a b m n d i j k l e f = let p : d * i * b ≡ (m + d * k + a) * b = ap (λ (t : ℕ). t * b) e in let q : m * (b + d * j) ≡ m * (n + d * l) = ap (λ (t : ℕ). m * t) f in omega arith

both_numbers : (a b m n d i j k l : ℕ) → d * i ≡ m + d * k + a → d * j ≡ n + d * l + b → a * b + d * (m * j + k * (d * j)) ≡ m * n + d * (i * b + m * l + k * n + k * (d * l))
both_numbers a b m n d i j k l e f = let p : d * i * b ≡ (m + d * k + a) * b = ap (λ (t : ℕ). t * b) e in let q : (m + d * k) * (d * j) ≡ (m + d * k) * (n + d * l + b) = ap (λ (t : ℕ). (m + d * k) * t) f in omega arith

below_zero : (z : ℤ) (c s t : ℕ) → z ≡ neg_ℤ (pos c) → s ≡ c + t → z +ℤ pos s ≡ pos t
below_zero z zero s t e f = rw e (omega (arith, ints))
below_zero z (suc c) s t e f = rw e (omega (arith, ints))

down_to : (a m i k : ℕ) → negsuc a +ℤ pos i ≡ pos (m + k) → i ≡ m + k + suc a
down_to a m i k e = omega (arith, ints)

up_to : (a m i k : ℕ) → pos a +ℤ pos i ≡ pos (m + k) → a + i ≡ m + k
up_to a m i k e = omega (arith, ints)

pub Near-mul : (d : ℕ) (a b : ℤ) (m n : ℕ) → Near d a m → Near d b n → Near d (a *ℤ b) (m * n)
Near-mul d (pos a) (pos b) m n p q = record {
  up = a * q.up + p.up * b + p.up * (d * q.up);
  over = m * q.over + p.over * n + p.over * (d * q.over);
  same = times_pos a b m n d p.up q.up p.over q.over (up_to a m (d * p.up) (d * p.over) p.same) (up_to b n (d * q.up) (d * q.over) q.same);
}
Near-mul d (negsuc a) (pos b) m n p q = record {
  up = p.up * b + m * q.up;
  over = m * q.over + p.over * b;
  same = below_zero (negsuc a *ℤ pos b) (suc a * b) (d * (p.up * b + m * q.up)) (m * n + d * (m * q.over + p.over * b)) (negsuc-*ℤ-pos a b)
      (less_numbers (suc a) b m n d p.up q.up p.over q.over (down_to a m (d * p.up) (d * p.over) p.same) (up_to b n (d * q.up) (d * q.over) q.same));
}
Near-mul d (pos a) (negsuc b) m n p q = record {
  up = q.up * a + n * p.up;
  over = n * p.over + q.over * a;
  same = below_zero (pos a *ℤ negsuc b) (suc b * a) (d * (q.up * a + n * p.up)) (m * n + d * (n * p.over + q.over * a)) (pos-*ℤ-negsuc a b ∙ ap (λ (t : ℕ). neg_ℤ (pos t)) (mul_comm a (suc b)))
      (less_numbers (suc b) a n m d q.up p.up q.over p.over (down_to b n (d * q.up) (d * q.over) q.same) (up_to a m (d * p.up) (d * p.over) p.same) ∙ ap (λ (t : ℕ). suc b * a + (t + d * (n * p.over + q.over * a))) (mul_comm n m));
}
Near-mul d (negsuc a) (negsuc b) m n p q = record {
  up = m * q.up + p.over * (d * q.up);
  over = p.up * suc b + m * q.over + p.over * n + p.over * (d * q.over);
  same = ap pos (both_numbers (suc a) (suc b) m n d p.up q.up p.over q.over (down_to a m (d * p.up) (d * p.over) p.same) (down_to b n (d * q.up) (d * q.over) q.same));
}

pub product_cut : (y : ℕ) (a b : ℤ) → fit y (pos (num (fit y a) * num (fit y b))) ≡ fit y (a *ℤ b)
product_cut y a b = one_row y _ (a *ℤ b) (num (fit y a) * num (fit y b)) (Near-pos (2 ^ y) (num (fit y a) * num (fit y b))) (Near-mul (2 ^ y) a b (num (fit y a)) (num (fit y b)) (Near-fit y a) (Near-fit y b))

-- a number that was cut before it is multiplied
pub times_cut : (y : ℕ) (z : ℤ) (m : ℕ) → fit y (pos (num (fit y z) * m)) ≡ fit y (z *ℤ pos m)
times_cut y z m = one_row y (pos (num (fit y z) * m)) (z *ℤ pos m) (num (fit y z) * m) (Near-pos (2 ^ y) (num (fit y z) * m)) (Near-mul (2 ^ y) z (pos m) (num (fit y z)) m (Near-fit y z) (Near-pos (2 ^ y) m))

-- a number that was cut to a larger width before
pub cut_again : (y n : ℕ) (z : ℤ) → y ≤ n → fit y (pos (num (fit n z))) ≡ fit y z
cut_again y n z h = ap (λ (m : ℕ). fit y (pos m)) (num-fit n z) ∙ fit-residue y n z h

-- the same of rows that were cut to width y
module _ (y m n : ℕ) (a b : ℤ) (p q : Row) (mw : m ≡ y) (nw : n ≡ y) (pa : p ≡ fit m a) (qb : q ≡ fit n b) where
  pub sum_of : fit y (pos (num p) +ℤ pos (num q)) ≡ fit y (a +ℤ b)
  sum_of = rw (pa, qb, mw, nw) (sum_cut y a b)

  pub difference_of : fit y (pos (num p) -ℤ pos (num q)) ≡ fit y (a -ℤ b)
  difference_of = rw (pa, qb, mw, nw) (difference_cut y a b)

  pub product_of : fit y (pos (num p) *ℤ pos (num q)) ≡ fit y (a *ℤ b)
  product_of = rw (pa, qb, mw, nw) (product_cut y a b)

zero_row : (y : ℕ) → num (fit y (pos 0)) ≡ 0
zero_row y = num-fit y (pos 0) ∙ omega (arith, pow_pos y)

pub opposite_of : (y m : ℕ) (a : ℤ) (p : Row) → m ≡ y → p ≡ fit m a → fit y (pos 0 -ℤ pos (num p)) ≡ fit y (pos 0 -ℤ a)
opposite_of y m a p mw pa = rw (pa, mw) (ap (λ (k : ℕ). fit y (pos k -ℤ pos (num (fit y a)))) (sym (zero_row y)) ∙ difference_cut y (pos 0) a)

pub times_of : (y m n : ℕ) (a : ℤ) (p : Row) → m ≡ y → p ≡ fit m a → fit y (pos (num p * n)) ≡ fit y (a *ℤ pos n)
times_of y m n a p mw pa = rw (pa, mw) (times_cut y a n)
