-- Products that are past 64 bits, and sums compared digit by digit.
use Rattle.std.proofs.Common.{◌≡◌, ℕ, zero, suc, ◌+◌, ◌-◌, ◌*◌, ◌^◌, ◌<◌, ◌≤◌, leb, min, refl, sym, ◌∙◌, arith}
use Rattle.std.specs.Prelude.{nat_lt}
use Rattle.std.proofs.Math.Nat.{pow-le-pow_right}
use Rattle.std.proofs.lemmas.Bool.{le-leb, lt-leb}
use Rattle.std.proofs.lemmas.Nat.{mul-le}

-- at least one times a number is at least that number
pub one-times : (n a b : ℕ) → 1 ≤ a → n ≤ b → n ≤ a * b
one-times n a b h k = let m : 1 * n ≤ a * b = mul-le 1 n a b h k in omega (arith, m)

pub times-one : (n a b : ℕ) → n ≤ a → 1 ≤ b → n ≤ a * b
times-one n a b h k = let m : n * 1 ≤ a * b = mul-le n 1 a b h k in omega (arith, m)

pub power-past : (b : ℕ) → 64 ≤ b → 2 ^ 64 ≤ 2 ^ b
power-past b h = pow-le-pow_right {n = 2} (omega arith) h

-- what is left of a number w less another s, from -1 to 2, and 1 more
pub record IsSpare (n s w : ℕ) : Type 0 where
  pub most : n ≤ 3
  pub short : n ≡ 0 → w < s
  pub even : n ≡ 1 → w ≡ s
  pub one : n ≡ 2 → w ≡ s + 1
  pub more : n ≡ 3 → s + 2 ≤ w

pub spare-start : (s w : ℕ) → s ≡ 0 → w ≡ 0 → IsSpare 1 s w
spare-start s w e f = record { most = omega arith; short = λ h. absurd (omega (arith, h)); even = λ h. f ∙ sym e; one = λ h. absurd (omega (arith, h)); more = λ h. absurd (omega (arith, h)) }

module _ (s w a b c m : ℕ) (ha : a ≤ 1) (hb : b ≤ 1) (hc : c ≤ 1) where
  pub spare-step : (n : ℕ) → IsSpare n s w → m ≡ min (2 * n + c - (1 + a + b)) 3 → IsSpare m (a + b + 2 * s) (c + 2 * w)
  spare-step zero h e = let k = h.short refl in record {
    most = omega (arith, e);
    short = λ g. omega (arith, k);
    even = λ g. absurd (omega (arith, e, g));
    one = λ g. absurd (omega (arith, e, g));
    more = λ g. absurd (omega (arith, e, g));
  }
  spare-step (suc zero) h e = let k = h.even refl in record {
    most = omega (arith, e);
    short = λ g. omega (arith, k, e, g);
    even = λ g. omega (arith, k, e, g);
    one = λ g. omega (arith, k, e, g);
    more = λ g. absurd (omega (arith, e, g));
  }
  spare-step (suc (suc zero)) h e = let k = h.one refl in record {
    most = omega (arith, e);
    short = λ g. absurd (omega (arith, e, g));
    even = λ g. omega (arith, k, e, g);
    one = λ g. omega (arith, k, e, g);
    more = λ g. omega (arith, k, e, g);
  }
  spare-step (suc (suc (suc zero))) h e = let k = h.more refl in record {
    most = omega (arith, e);
    short = λ g. absurd (omega (arith, e, g));
    even = λ g. absurd (omega (arith, e, g));
    one = λ g. absurd (omega (arith, e, g));
    more = λ g. omega (arith, k);
  }
  spare-step (suc (suc (suc (suc n)))) h e = let k = h.most in absurd (omega (arith, k))

pub spare-end : (n s w : ℕ) → IsSpare n s w → nat_lt 0 n ≡ leb s w
spare-end zero s w h = let k = h.short refl in sym (lt-leb s w k)
spare-end (suc zero) s w h = let k = h.even refl in sym (le-leb s w (omega (arith, k)))
spare-end (suc (suc zero)) s w h = let k = h.one refl in sym (le-leb s w (omega (arith, k)))
spare-end (suc (suc (suc zero))) s w h = let k = h.more refl in sym (le-leb s w (omega (arith, k)))
spare-end (suc (suc (suc (suc n)))) s w h = let k = h.most in absurd (omega (arith, k))
