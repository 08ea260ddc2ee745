-- Elements that pass a test, with what stands beside them.
use Rattle.std.proofs.Common.{◌≡◌, ℕ, zero, suc, Bool, true, false, cond, List, [], ◌∷◌, Option, Some, None, map, refl, sym, ap, subst, ◌∙◌}
use Rattle.std.specs.Prelude.{Contains, slice_get}
use Rattle.std.specs.List.{filter}
use Rattle.sby_bits.specs.Rows.{Row}
use Rattle.model_core.specs.Choices.{without_digit}
use Rattle.model_core.specs.Meaning.{Cycle, row_at}
use Rattle.model_core.proofs.Lists.{contained_at, place_of_contained}
use Rattle.model_cone.specs.Slice.{kept_at}

pub filter-from : {A : Type 0} (test : A → Bool) (xs : List A) (j : ℕ) (x : A) → slice_get (filter test xs) j ≡ Some x → (i : ℕ) × (slice_get xs i ≡ Some x) × (test x ≡ true)
filter-from test [] j x e = absurd cc
filter-from test (y ∷ xs) j x e = by (test y) refl j e (λ k f. filter-from test xs k x f)
  where
    by : (b : Bool) → test y ≡ b → (j : ℕ) → slice_get (cond b (y ∷ filter test xs) (filter test xs)) j ≡ Some x
        → ((k : ℕ) → slice_get (filter test xs) k ≡ Some x → (i : ℕ) × (slice_get xs i ≡ Some x) × (test x ≡ true)) → (i : ℕ) × (slice_get (y ∷ xs) i ≡ Some x) × (test x ≡ true)
    by true t zero e rest = let same : y ≡ x = cc in (0, e, subst (λ (z : _). test z ≡ true) same t)
    by true t (suc j) e rest = let r = rest j e in (suc r.0, r.1, r.2)
    by false t j e rest = let r = rest j e in (suc r.0, r.1, r.2)

pub filter-to : {A : Type 0} (test : A → Bool) (xs : List A) (i : ℕ) (x : A) → slice_get xs i ≡ Some x → test x ≡ true → (j : ℕ) × (slice_get (filter test xs) j ≡ Some x)
filter-to test [] i x e t = absurd cc
filter-to test (y ∷ xs) zero x e t =
    let same : y ≡ x = cc in
    let here : test y ≡ true = subst (λ (z : _). test z ≡ true) (sym same) t in
    (0, rw here (ap Some same))
filter-to test (y ∷ xs) (suc i) x e t = by (test y) (filter-to test xs i x e t)
  where
    by : (b : Bool) → (j : ℕ) × (slice_get (filter test xs) j ≡ Some x) → (j : ℕ) × (slice_get (cond b (y ∷ filter test xs) (filter test xs)) j ≡ Some x)
    by true r = (suc r.0, r.1)
    by false r = r

pub filter-contained : {A : Type 0} (test : A → Bool) (xs : List A) (x : A) → Contains (filter test xs) x → Contains xs x × (test x ≡ true)
filter-contained test xs x c =
    let at = place_of_contained (filter test xs) x c in
    let r = filter-from test xs at.0 x at.1 in
    (contained_at xs x r.0 r.1, r.2)

-- what is kept beside a place that is kept
pub kept-from : {A : Type 0} (keep : ℕ → Bool) (ps : List ℕ) (xs : List A) (k : ℕ) (x : A) → slice_get (kept_at keep ps xs) k ≡ Some x
    → (j p : ℕ) × (slice_get ps j ≡ Some p) × (slice_get xs j ≡ Some x) × (keep p ≡ true) × (slice_get (filter keep ps) k ≡ Some p)
kept-from keep [] xs k x f = absurd cc
kept-from keep (q ∷ ps) [] k x f = absurd (let z : None ≡ Some x = f in cc)
kept-from keep (q ∷ ps) (y ∷ xs) k x f = by (keep q) refl k f (λ n h. kept-from keep ps xs n x h)
  where
    by : (b : Bool) → keep q ≡ b → (k : ℕ) → slice_get (cond b (y ∷ kept_at keep ps xs) (kept_at keep ps xs)) k ≡ Some x
        → ((n : ℕ) → slice_get (kept_at keep ps xs) n ≡ Some x → (j p : ℕ) × (slice_get ps j ≡ Some p) × (slice_get xs j ≡ Some x) × (keep p ≡ true) × (slice_get (filter keep ps) n ≡ Some p))
        → (j p : ℕ) × (slice_get (q ∷ ps) j ≡ Some p) × (slice_get (y ∷ xs) j ≡ Some x) × (keep p ≡ true) × (slice_get (cond b (q ∷ filter keep ps) (filter keep ps)) k ≡ Some p)
    by true t zero f rest = (0, q, refl, f, t, refl)
    by true t (suc k) f rest = let r = rest k f in (suc r.0, r.1, r.2, r.3, r.4, r.5)
    by false t k f rest = let r = rest k f in (suc r.0, r.1, r.2, r.3, r.4, r.5)

pub kept-to : {A : Type 0} (keep : ℕ → Bool) (ps : List ℕ) (xs : List A) (j p : ℕ) (x : A) → slice_get ps j ≡ Some p → slice_get xs j ≡ Some x → keep p ≡ true
    → (k : ℕ) × (slice_get (filter keep ps) k ≡ Some p) × (slice_get (kept_at keep ps xs) k ≡ Some x)
kept-to keep [] xs j p x e f t = absurd cc
kept-to keep (q ∷ ps) [] j p x e f t = absurd (let z : None ≡ Some x = f in cc)
kept-to keep (q ∷ ps) (y ∷ xs) zero p x e f t =
    let same : q ≡ p = cc in
    let here : keep q ≡ true = subst (λ (z : ℕ). keep z ≡ true) (sym same) t in
    (0, rw here (ap Some same), rw here f)
kept-to keep (q ∷ ps) (y ∷ xs) (suc j) p x e f t = by (keep q) (kept-to keep ps xs j p x e f t)
  where
    by : (b : Bool) → (k : ℕ) × (slice_get (filter keep ps) k ≡ Some p) × (slice_get (kept_at keep ps xs) k ≡ Some x)
        → (k : ℕ) × (slice_get (cond b (q ∷ filter keep ps) (filter keep ps)) k ≡ Some p) × (slice_get (cond b (y ∷ kept_at keep ps xs) (kept_at keep ps xs)) k ≡ Some x)
    by true r = (suc r.0, r.1, r.2)
    by false r = r

-- places without a digit
pub without-digit : (ps : List ℕ) (digits : List (Option Bool)) (p : ℕ) → Contains (without_digit ps digits) p → (k : ℕ) × (slice_get ps k ≡ Some p) × (slice_get digits k ≡ Some None)
without-digit ps digits p c = let at = place_of_contained (without_digit ps digits) p c in by ps digits at.0 at.1
  where
    by : (ps : List ℕ) (digits : List (Option Bool)) (k : ℕ) → slice_get (without_digit ps digits) k ≡ Some p → (k : ℕ) × (slice_get ps k ≡ Some p) × (slice_get digits k ≡ Some None)
    by [] digits k e = absurd cc
    by (q ∷ ps) [] k e = absurd cc
    by (q ∷ ps) (Some x ∷ digits) k e = let r = by ps digits k e in (suc r.0, r.1, r.2)
    by (q ∷ ps) (None ∷ digits) zero e = (0, e, refl)
    by (q ∷ ps) (None ∷ digits) (suc k) e = let r = by ps digits k e in (suc r.0, r.1, r.2)

-- a bit of a row at places
pub row-bit : (c : Cycle) (ps : List ℕ) (row : Row) (k p : ℕ) (b : Bool) → row_at c ps ≡ row → slice_get ps k ≡ Some p → slice_get row k ≡ Some b → c p ≡ b
row-bit c [] row k p b h e f = absurd cc
row-bit c (q ∷ ps) row zero p b h e f =
    let same : q ≡ p = cc in
    let at : slice_get (c q ∷ row_at c ps) 0 ≡ Some b = subst (λ (r : Row). slice_get r 0 ≡ Some b) (sym h) f in
    let bit : c q ≡ b = cc in
    ap c (sym same) ∙ bit
row-bit c (q ∷ ps) row (suc k) p b h e f =
    let at : slice_get (c q ∷ row_at c ps) (suc k) ≡ Some b = subst (λ (r : Row). slice_get r (suc k) ≡ Some b) (sym h) f in
    row-bit c ps (row_at c ps) k p b refl e at

abbrev pub digit-bit : Option Bool → Bool
digit-bit None = false
digit-bit (Some x) = x

pub digit-at : (digits : List (Option Bool)) (k : ℕ) (x : Option Bool) → slice_get digits k ≡ Some x → slice_get (map digit-bit digits) k ≡ Some (digit-bit x)
digit-at [] k x e = absurd cc
digit-at (y ∷ digits) zero x e = let same : y ≡ x = cc in ap (λ (z : Option Bool). Some (digit-bit z)) same
digit-at (y ∷ digits) (suc k) x e = digit-at digits k x e
