-- The bits that digits write.
use Rattle.std.proofs.Common.{◌≡◌, ℕ, zero, suc, ◌-◌, ◌<◌, ◌≤◌, eqb, List, [], ◌∷◌, ◌++◌, length, get_or, drop, refl, ap, arith, length-append, drop-cons}
use Rattle.btor_text.specs.Reading.{bits_back}

pub length_back : (ds : List ℕ) → length (bits_back ds) ≡ length ds
length_back [] = refl
length_back (d ∷ ds) = let e = length-append (bits_back ds) (eqb d 49 ∷ []) in let f = length_back ds in omega arith

pub back_none : (ds : List ℕ) → [] ≡ bits_back (drop (length ds) ds)
back_none [] = refl
back_none (d ∷ ds) = back_none ds

back_at : (ds : List ℕ) (k : ℕ) → k < length ds → bits_back (drop k ds) ≡ bits_back (drop (suc k) ds) ++ eqb (get_or ds k 0) 49 ∷ []
back_at ds k h = ap (λ (es : List ℕ). bits_back es) (drop-cons ds k 0 h)

pub back_more : (ds : List ℕ) (n : ℕ) → 0 < n → n ≤ length ds → bits_back (drop (n - 1) ds) ≡ bits_back (drop n ds) ++ eqb (get_or ds (n - 1) 0) 49 ∷ []
back_more ds zero some h = absurd (omega arith)
back_more ds (suc k) some h = let e : suc k - 1 ≡ k = omega arith in rw e (back_at ds k (omega arith))
