-- Numbers that are the same modulo a power of two.
use Rattle.std.proofs.Common.{◌≡◌, ℕ, ◌+◌, ◌-◌, ◌/◌, ◌%◌, ◌^◌, ◌<◌, ◌≤◌, sym, ◌∙◌, ap, inl, inr, arith}
use Rattle.std.proofs.lemmas.Int.{ints}
use Rattle.std.proofs.lemmas.Bool.{cases_lt}
use Rattle.std.proofs.lemmas.Nat.Bits.{ones_shr}
use Rattle.std.specs.Prelude.{ℤ, pos, negsuc, ◌-ℤ◌}
use Rattle.sby_bits.specs.Rows.{residue, fit}
use Rattle.sby_bits.proofs.Numbers.{bit_of, fit-at, low_bits-at, length-fit, row_is}

residue-at : (m : ℕ) (z : ℤ) (i : ℕ) → i < m → bit_of (pos (residue z (2 ^ m))) i ≡ bit_of z i
residue-at m z i h = sym (low_bits-at m (residue z (2 ^ m)) i h) ∙ fit-at m z i h

-- a residue modulo more bits than those that are kept
pub fit-residue : (y m : ℕ) (z : ℤ) → y ≤ m → fit y (pos (residue z (2 ^ m))) ≡ fit y z
fit-residue y m z h =
    row_is (fit y (pos (residue z (2 ^ m)))) y z (length-fit y (pos (residue z (2 ^ m))))
    (λ k below. fit-at y (pos (residue z (2 ^ m))) k below ∙ residue-at m z k (omega arith))

pub difference : (a b : ℕ) → a < 2 ^ 128 → b < 2 ^ 128 → (a + (2 ^ 128 - b)) % 2 ^ 128 ≡ residue (pos a -ℤ pos b) (2 ^ 128)
difference a b p q =
    elim (cases_lt a b) as (λ _. (a + (2 ^ 128 - b)) % 2 ^ 128 ≡ residue (pos a -ℤ pos b) (2 ^ 128)) [
      | inl low ↦
          let e : pos a -ℤ pos b ≡ negsuc (b - a - 1) = omega (arith, ints) in
          rw e (omega arith)
      | inr high ↦
          let e : pos a -ℤ pos b ≡ pos (a - b) = omega (arith, ints) in
          rw e (omega arith)
    ]

-- the number that has the lowest bits set, by a shift of `u128::MAX`
pub low_ones : (k : ℕ) → k ≤ 128 → (2 ^ 128 - 1) / 2 ^ (128 - k) ≡ 2 ^ k - 1
low_ones k h = ones_shr 128 (128 - k) (omega arith) ∙ ap (λ (j : ℕ). 2 ^ j - 1) (omega arith)
