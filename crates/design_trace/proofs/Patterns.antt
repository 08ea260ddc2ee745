-- What texts a pattern matches, and where bytes fail it.
use Rattle.std.proofs.Common.{◌≡◌, ◌∙◌, ◌<◌, ◌≤◌, ◌+◌, ℕ, zero, suc, List, [], ◌∷◌, ◌++◌, Some, None, map, length, take, refl, ap, subst, inl, arith}
use Rattle.design_trace.specs.Reading.{Allows, FailsAt, Pattern}

-- each byte is one that is wanted at its place, and none is missing
abbrev pub Matches : Pattern → List ℕ → Type 0
Matches [] [] = Unit {0}
Matches [] (x ∷ xs) = ⊥
Matches (p ∷ ps) [] = ⊥
Matches (p ∷ ps) (x ∷ xs) = Allows p x × Matches ps xs

pub matches_append : (p q : Pattern) (xs ys : List ℕ) → Matches p xs → Matches q ys → Matches (p ++ q) (xs ++ ys)
matches_append [] q [] ys a b = b
matches_append [] q (x ∷ xs) ys a b = absurd a
matches_append (p ∷ ps) q [] ys a b = absurd a
matches_append (p ∷ ps) q (x ∷ xs) ys a b = (a.0, matches_append ps q xs ys a.1 b)

pub matches_length : (p : Pattern) (xs : List ℕ) → Matches p xs → length xs ≡ length p
matches_length [] [] a = refl
matches_length [] (x ∷ xs) a = absurd a
matches_length (p ∷ ps) [] a = absurd a
matches_length (p ∷ ps) (x ∷ xs) a = ap suc (matches_length ps xs a.1)

-- a text in two parts, as the pattern is
pub record InParts (p q : Pattern) (zs : List ℕ) : Type 0 where
  pub first : List ℕ
  pub second : List ℕ
  pub whole : zs ≡ first ++ second
  pub begins : Matches p first
  pub ends : Matches q second

pub matches_split : (p q : Pattern) (zs : List ℕ) → Matches (p ++ q) zs → InParts p q zs
matches_split [] q zs a = record { first = []; second = zs; whole = refl; begins = tt; ends = a }
matches_split (p ∷ ps) q [] a = absurd a
matches_split (p ∷ ps) q (z ∷ zs) a =
    let rest = matches_split ps q zs a.1 in
    record { first = z ∷ rest.first; second = rest.second; whole = ap (λ t. z ∷ t) rest.whole; begins = (a.0, rest.begins); ends = rest.ends }

pub matches_literal : (t : List ℕ) → Matches (map Some t) t
matches_literal [] = tt
matches_literal (x ∷ xs) = (refl, matches_literal xs)

pub literal_matches : (t xs : List ℕ) → Matches (map Some t) xs → xs ≡ t
literal_matches [] [] a = refl
literal_matches [] (x ∷ xs) a = absurd a
literal_matches (y ∷ ys) [] a = absurd a
literal_matches (y ∷ ys) (x ∷ xs) a = ap (λ b. b ∷ xs) a.0 ∙ ap (λ t. y ∷ t) (literal_matches ys xs a.1)

-- ---- failing

pub fails_first : (p q : Pattern) (xs : List ℕ) (n : ℕ) → FailsAt p xs n → FailsAt (p ++ q) xs n
fails_first [] q xs n f = absurd f
fails_first (p ∷ ps) q [] n f = f
fails_first (p ∷ ps) q (x ∷ xs) zero f = f
fails_first (p ∷ ps) q (x ∷ xs) (suc n) f = (f.0, fails_first ps q xs n f.1)

pub fails_later : (p q : Pattern) (xs ys : List ℕ) (n k : ℕ) → Matches p xs → FailsAt q ys n → k ≡ length xs + n → FailsAt (p ++ q) (xs ++ ys) k
fails_later [] q [] ys n k a f e = let same : n ≡ k = omega (arith, e) in subst (FailsAt q ys) same f
fails_later [] q (x ∷ xs) ys n k a f e = absurd a
fails_later (p ∷ ps) q [] ys n k a f e = absurd a
fails_later (p ∷ ps) q (x ∷ xs) ys n zero a f e = absurd (omega (arith, e))
fails_later (p ∷ ps) q (x ∷ xs) ys n (suc k) a f e = (a.0, fails_later ps q xs ys n k a.1 f (omega (arith, e)))

-- a text of the pattern
fill : Pattern → List ℕ
fill [] = []
fill (Some b ∷ ps) = b ∷ fill ps
fill (None ∷ ps) = 48 ∷ fill ps

fill_matches : (p : Pattern) → Matches p (fill p)
unfolding fill
fill_matches [] = tt
fill_matches (Some b ∷ ps) = (refl, fill_matches ps)
fill_matches (None ∷ ps) = (inl refl, fill_matches ps)

-- what stands before the failing place goes on to a text of the pattern
pub fails_goes_on : (p : Pattern) (xs : List ℕ) (n : ℕ) → FailsAt p xs n → (rest : List ℕ) × Matches p (take n xs ++ rest)
fails_goes_on [] xs n f = absurd f
fails_goes_on (p ∷ ps) [] zero f = (fill (p ∷ ps), fill_matches (p ∷ ps))
fails_goes_on (p ∷ ps) [] (suc n) f = absurd (omega (arith, f))
fails_goes_on (p ∷ ps) (x ∷ xs) zero f = (fill (p ∷ ps), fill_matches (p ∷ ps))
fails_goes_on (p ∷ ps) (x ∷ xs) (suc n) f = let r = fails_goes_on ps xs n f.1 in (r.0, (f.0, r.1))

pub fails_within : (p : Pattern) (xs : List ℕ) (n : ℕ) → FailsAt p xs n → n ≤ length xs
fails_within [] xs n f = absurd f
fails_within (p ∷ ps) [] n f = omega (arith, f)
fails_within (p ∷ ps) (x ∷ xs) zero f = omega arith
fails_within (p ∷ ps) (x ∷ xs) (suc n) f = let r = fails_within ps xs n f.1 in omega (arith, r)

-- nothing longer does, nor does it as a text of a pattern that this one continues
pub fails_no_more : (p e : Pattern) (xs rest : List ℕ) (n m : ℕ) → FailsAt p xs n → n < m → m ≤ length xs → Matches (p ++ e) (take m xs ++ rest) → ⊥
fails_no_more [] e xs rest n m f lt le h = f
fails_no_more (p ∷ ps) e [] rest n m f lt le h = absurd (omega (arith, lt, le))
fails_no_more (p ∷ ps) e (x ∷ xs) rest n zero f lt le h = absurd (omega (arith, lt))
fails_no_more (p ∷ ps) e (x ∷ xs) rest zero (suc m) f lt le h = f h.0
fails_no_more (p ∷ ps) e (x ∷ xs) rest (suc n) (suc m) f lt le h = fails_no_more ps e xs rest n m f.1 (omega (arith, lt)) (omega (arith, le)) h.1

pub fails_no_less : (p e : Pattern) (xs rest : List ℕ) (n m : ℕ) → FailsAt (p ++ e) xs n → n < m → m ≤ length xs → Matches p (take m xs ++ rest) → ⊥
fails_no_less [] e [] rest n m f lt le h = absurd (omega (arith, lt, le))
fails_no_less [] e (x ∷ xs) rest n zero f lt le h = absurd (omega (arith, lt))
fails_no_less [] e (x ∷ xs) rest n (suc m) f lt le h = h
fails_no_less (p ∷ ps) e [] rest n m f lt le h = absurd (omega (arith, lt, le))
fails_no_less (p ∷ ps) e (x ∷ xs) rest n zero f lt le h = absurd (omega (arith, lt))
fails_no_less (p ∷ ps) e (x ∷ xs) rest zero (suc m) f lt le h = f h.0
fails_no_less (p ∷ ps) e (x ∷ xs) rest (suc n) (suc m) f lt le h = fails_no_less ps e xs rest n m f.1 (omega (arith, lt)) (omega (arith, le)) h.1

-- nor are the bytes a text of a pattern that begins with this one
pub fails_whole : (p e : Pattern) (xs : List ℕ) (n : ℕ) → FailsAt p xs n → Matches (p ++ e) xs → ⊥
fails_whole [] e xs n f h = f
fails_whole (p ∷ ps) e [] n f h = h
fails_whole (p ∷ ps) e (x ∷ xs) zero f h = f h.0
fails_whole (p ∷ ps) e (x ∷ xs) (suc n) f h = fails_whole ps e xs n f.1 h.1
