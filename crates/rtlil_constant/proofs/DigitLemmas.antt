-- One digit, this many times, and digits below it.
use Rattle.std.proofs.Common.{◌≡◌, ℕ, zero, suc, ◌+◌, ◌<◌, Bool, true, false, ◌||◌, List, ◌++◌, replicate, refl, arith}
use Rattle.std.specs.List.{list_any}
use Rattle.rtlil_constant.specs.Constants.{is_open, open_digits}

pub open_below : (n c : ℕ) (digits : List ℕ) → is_open c ≡ true → open_digits (replicate n c ++ digits) ≡ n + open_digits digits
open_below zero c digits h = omega arith
open_below (suc n) c digits h = rw (h, open_below n c digits h) (omega arith)

pub open_past : (n c : ℕ) (digits : List ℕ) → is_open c ≡ false → open_digits (replicate n c ++ digits) ≡ open_digits digits
open_past zero c digits h = refl
open_past (suc n) c digits h = rw (h, open_past n c digits h) refl

pub any_below : (p : ℕ → Bool) (n c : ℕ) (digits : List ℕ) → 0 < n → list_any p (replicate n c ++ digits) ≡ (p c || list_any p digits)
any_below p zero c digits some = absurd (omega arith)
any_below p (suc zero) c digits some = refl
any_below p (suc (suc n)) c digits some = rw (any_below p (suc n) c digits (omega arith)) (twice (p c) (list_any p digits))
  where
    twice : (a b : Bool) → (a || (a || b)) ≡ (a || b)
    twice true b = refl
    twice false b = refl
