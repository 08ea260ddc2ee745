-- State bits with start digits.
use Rattle.std.proofs.Common.{◌≡◌, ℕ, zero, suc, ◌+◌, Bool, List, [], ◌∷◌, Option, Some, None, drop, length, refl, subst, arith}
use Rattle.std.specs.Prelude.{All, IsSome, slice_get}
use Rattle.std.proofs.lemmas.List.Elements.{All-head, All-tail}
use Rattle.model_core.specs.Choices.{without_digit}

-- where each has one, none is open
pub none_open : (places : List ℕ) (starts : List (Option Bool)) → All IsSome starts → without_digit places starts ≡ []
none_open [] starts a = refl
none_open (p ∷ places) [] a = refl
none_open (p ∷ places) (Some x ∷ starts) a = none_open places starts (All-tail IsSome (Some x) starts a)
none_open (p ∷ places) (None ∷ starts) a = absurd (let h = All-head IsSome None starts a in cc)

open_after : (places : List ℕ) (starts : List (Option Bool)) (k p : ℕ) (d : Option Bool) → slice_get places k ≡ Some p → slice_get starts k ≡ Some d
    → length (without_digit (drop k places) (drop k starts)) ≡ length (without_digit (p ∷ []) (d ∷ [])) + length (without_digit (drop (suc k) places) (drop (suc k) starts))
open_after [] starts k p d e f = absurd cc
open_after (q ∷ places) [] k p d e f = absurd cc
open_after (q ∷ places) (Some x ∷ starts) zero p (Some y) e f = omega arith
open_after (q ∷ places) (None ∷ starts) zero p None e f = omega arith
open_after (q ∷ places) (Some x ∷ starts) zero p None e f = absurd cc
open_after (q ∷ places) (None ∷ starts) zero p (Some y) e f = absurd cc
open_after (q ∷ places) (c ∷ starts) (suc k) p d e f = open_after places starts k p d e f

-- one state bit more
pub open_next : (places : List ℕ) (starts : List (Option Bool)) (k p : ℕ) (d : Option Bool) → slice_get places k ≡ Some p → slice_get starts k ≡ Some d
    → length (without_digit (drop k places) (drop k starts)) ≡ length (without_digit (p ∷ []) (d ∷ [])) + length (without_digit (drop (k + 1) places) (drop (k + 1) starts))
open_next places starts k p d e f =
    subst (λ (n : ℕ). length (without_digit (drop k places) (drop k starts)) ≡ length (without_digit (p ∷ []) (d ∷ [])) + length (without_digit (drop n places) (drop n starts)))
    (let n : suc k ≡ k + 1 = omega arith in n) (open_after places starts k p d e f)
