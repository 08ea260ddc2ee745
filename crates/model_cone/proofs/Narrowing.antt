-- Rows of which the bits are left out that aren't kept.
use Rattle.std.proofs.Common.{◌≡◌, ℕ, suc, ◌≤◌, Bool, true, false, not, cond, List, [], ◌∷◌, ◌++◌, length, map, take, drop, refl, sym, ap, ◌∙◌, arith}
use Rattle.std.specs.Prelude.{All, Contains}
use Rattle.std.specs.List.{filter}
use Rattle.model_core.specs.Meaning.{Cycle, is_active, next_row, row_at}
use Rattle.model_core.specs.Shape.{RegisterOf}
use Rattle.model_core.proofs.Lists.{all_at, all_from}
use Rattle.model_cone.specs.Slice.{kept_at, narrowed}
use Rattle.model_cone.proofs.Digits.{kept-from}

pub kept-same : (keep : ℕ → Bool) (ps : List ℕ) → kept_at keep ps ps ≡ filter keep ps
kept-same keep [] = refl
kept-same keep (p ∷ ps) = by (keep p) (kept-same keep ps)
  where
    by : (b : Bool) → kept_at keep ps ps ≡ filter keep ps → cond b (p ∷ kept_at keep ps ps) (kept_at keep ps ps) ≡ cond b (p ∷ filter keep ps) (filter keep ps)
    by true e = ap (λ (qs : List ℕ). p ∷ qs) e
    by false e = e

pub kept-length : {A : Type 0} (keep : ℕ → Bool) (ps : List ℕ) (xs : List A) → length xs ≡ length ps → length (kept_at keep ps xs) ≡ length (filter keep ps)
kept-length keep [] xs e = refl
kept-length keep (p ∷ ps) [] e = absurd (omega arith)
kept-length keep (p ∷ ps) (x ∷ xs) e = by (keep p) (kept-length keep ps xs (omega arith))
  where
    by : (b : Bool) → length (kept_at keep ps xs) ≡ length (filter keep ps) → length (cond b (x ∷ kept_at keep ps xs) (kept_at keep ps xs)) ≡ length (cond b (p ∷ filter keep ps) (filter keep ps))
    by true h = ap suc h
    by false h = h

pub kept-all : {A : Type 0} (P : A → Type 0) (keep : ℕ → Bool) (ps : List ℕ) (xs : List A) → All P xs → All P (kept_at keep ps xs)
kept-all P keep ps xs h = all_from P (kept_at keep ps xs) (λ k x e. let r = kept-from keep ps xs k x e in all_at P xs r.0 x h r.3)

pub kept-mapped : {A B : Type 0} (f : A → B) (keep : ℕ → Bool) (ps : List ℕ) (xs : List A) → map f (kept_at keep ps xs) ≡ kept_at keep ps (map f xs)
kept-mapped f keep [] xs = refl
kept-mapped f keep (p ∷ ps) [] = refl
kept-mapped {B = B} f keep (p ∷ ps) (x ∷ xs) = by (keep p) (kept-mapped f keep ps xs)
  where
    by : (b : Bool) → map f (kept_at keep ps xs) ≡ kept_at keep ps (map f xs) → map f (cond b (x ∷ kept_at keep ps xs) (kept_at keep ps xs)) ≡ cond b (f x ∷ kept_at keep ps (map f xs)) (kept_at keep ps (map f xs))
    by true e = ap (λ (ys : List B). f x ∷ ys) e
    by false e = e

-- of places of which none is kept nothing is
pub kept-nothing : {A : Type 0} (keep : ℕ → Bool) (ps : List ℕ) (xs : List A) → ((p : ℕ) → Contains ps p → keep p ≡ false) → kept_at keep ps xs ≡ []
kept-nothing keep [] xs h = refl
kept-nothing keep (p ∷ ps) [] h = refl
kept-nothing keep (p ∷ ps) (x ∷ xs) h =
    let here : keep p ≡ false = h p (0, omega arith, refl) in
    rw here (kept-nothing keep ps xs (λ q c. h q (suc c.0, (let w = c.1 in omega arith), c.2)))

-- of more places, and of no more than them
pub kept-more : {A : Type 0} (keep : ℕ → Bool) (ps qs : List ℕ) (xs : List A) → length ps ≤ length xs → kept_at keep (ps ++ qs) xs ≡ kept_at keep ps xs ++ kept_at keep qs (drop (length ps) xs)
kept-more keep [] qs xs l = refl
kept-more keep (p ∷ ps) qs [] l = absurd (omega arith)
kept-more {A = A} keep (p ∷ ps) qs (x ∷ xs) l = by (keep p) (kept-more keep ps qs xs (omega arith))
  where
    by : (b : Bool) → kept_at keep (ps ++ qs) xs ≡ kept_at keep ps xs ++ kept_at keep qs (drop (length ps) xs)
        → cond b (x ∷ kept_at keep (ps ++ qs) xs) (kept_at keep (ps ++ qs) xs) ≡ cond b (x ∷ kept_at keep ps xs) (kept_at keep ps xs) ++ kept_at keep qs (drop (length ps) xs)
    by true e = ap (λ (ys : List A). x ∷ ys) e
    by false e = e

pub kept-taken : {A : Type 0} (keep : ℕ → Bool) (ps : List ℕ) (xs : List A) → kept_at keep ps (take (length ps) xs) ≡ kept_at keep ps xs
kept-taken keep [] xs = refl
kept-taken keep (p ∷ ps) [] = refl
kept-taken {A = A} keep (p ∷ ps) (x ∷ xs) = ap (λ (ys : List A). cond (keep p) (x ∷ ys) ys) (kept-taken keep ps xs)

-- two rows are the same where those of the bits that are kept are, and those of the others
pub halves-same : {A : Type 0} (keep : ℕ → Bool) (ps : List ℕ) (xs ys : List A) → length xs ≡ length ps → length ys ≡ length ps → kept_at keep ps xs ≡ kept_at keep ps ys
    → kept_at (λ p. not (keep p)) ps xs ≡ kept_at (λ p. not (keep p)) ps ys → xs ≡ ys
halves-same keep [] [] [] l m e f = refl
halves-same keep [] (x ∷ xs) ys l m e f = absurd (omega arith)
halves-same keep [] [] (y ∷ ys) l m e f = absurd (omega arith)
halves-same keep (p ∷ ps) [] ys l m e f = absurd (omega arith)
halves-same keep (p ∷ ps) (x ∷ xs) [] l m e f = absurd (omega arith)
halves-same {A = A} keep (p ∷ ps) (x ∷ xs) (y ∷ ys) l m e f = by (keep p) _ _ _ _ e f (λ g h. halves-same keep ps xs ys (omega arith) (omega arith) g h)
  where
    by : (b : Bool) (ks ls us vs : List A) → cond b (x ∷ ks) ks ≡ cond b (y ∷ ls) ls → cond (not b) (x ∷ us) us ≡ cond (not b) (y ∷ vs) vs → (ks ≡ ls → us ≡ vs → xs ≡ ys) → x ∷ xs ≡ y ∷ ys
    by true ks ls us vs g h rest = let head : x ≡ y = cc in let tail : ks ≡ ls = cc in rw (head, rest tail h) refl
    by false ks ls us vs g h rest = let head : x ≡ y = cc in let tail : us ≡ vs = cc in rw (head, rest g tail) refl

-- what the bits that are kept have, and have next
pub row-narrowed : (c : Cycle) (keep : ℕ → Bool) (ps : List ℕ) → row_at c (filter keep ps) ≡ kept_at keep ps (row_at c ps)
row-narrowed c keep ps = ap (λ (qs : List ℕ). row_at c qs) (sym (kept-same keep ps)) ∙ kept-mapped c keep ps ps

pub next-narrowed : (c : Cycle) (keep : ℕ → Bool) (r : RegisterOf) → next_row c (narrowed keep r) ≡ kept_at keep r.q (next_row c r)
next-narrowed c keep r = by r.reset_first (is_active c r.reset) (is_active c r.enable)
  where
    by : (f x y : Bool)
        → cond f (cond x (row_at c (narrowed keep r).value) (cond y (row_at c (narrowed keep r).d) (row_at c (narrowed keep r).q))) (cond y (cond x (row_at c (narrowed keep r).value) (row_at c (narrowed keep r).d)) (row_at c (narrowed keep r).q))
        ≡ kept_at keep r.q (cond f (cond x (row_at c r.value) (cond y (row_at c r.d) (row_at c r.q))) (cond y (cond x (row_at c r.value) (row_at c r.d)) (row_at c r.q)))
    by true true y = kept-mapped c keep r.q r.value
    by true false true = kept-mapped c keep r.q r.d
    by true false false = row-narrowed c keep r.q
    by false true true = kept-mapped c keep r.q r.value
    by false false true = kept-mapped c keep r.q r.d
    by false x false = row-narrowed c keep r.q
