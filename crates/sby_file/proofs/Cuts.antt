-- Where the lines of a text are cut.
use Rattle.std.proofs.Common.{◌≡◌, ℕ, zero, suc, ◌<◌, ◌≤◌, true, false, eqb, List, [], ◌∷◌, length, take, drop, get_or, refl, ap, inl, inr, arith}
use Rattle.std.proofs.lemmas.Bool.{cases_Bool}
use Rattle.std.specs.Prelude.{slice_index}
use Rattle.memchr.specs.Find.{is_byte}
use Rattle.sby_file.specs.Text.{lines_of, put_first}

-- no line feed before this place
record NoFeed (bytes : List ℕ) (n : ℕ) : Type 0 where
  pub before : (k : ℕ) → k < n → eqb (get_or bytes k 0) 10 ≡ false

no_feed_behind : (b : ℕ) (bytes : List ℕ) (n : ℕ) → NoFeed (b ∷ bytes) (suc n) → NoFeed bytes n
no_feed_behind b bytes n h = record { before = λ k l. h.before (suc k) (omega arith) }

no_feed_first : (b : ℕ) (bytes : List ℕ) (n : ℕ) → NoFeed (b ∷ bytes) (suc n) → eqb b 10 ≡ false
no_feed_first b bytes n h = h.before 0 (omega arith)

line_cut : (bytes : List ℕ) (n : ℕ) → n < length bytes → eqb (get_or bytes n 0) 10 ≡ true → NoFeed bytes n → lines_of bytes ≡ take n bytes ∷ lines_of (drop (suc n) bytes)
line_cut [] n h e f = absurd (omega arith)
line_cut (b ∷ bytes) zero h e f = rw e refl
line_cut (b ∷ bytes) (suc n) h e f = rw (no_feed_first b bytes n f) (ap (put_first b) (line_cut bytes n (omega arith) e (no_feed_behind b bytes n f)))

line_whole : (b : ℕ) (bytes : List ℕ) → NoFeed (b ∷ bytes) (suc (length bytes)) → lines_of (b ∷ bytes) ≡ (b ∷ bytes) ∷ []
line_whole b [] f = rw (no_feed_first b [] 0 f) refl
line_whole b (c ∷ bytes) f = rw (no_feed_first b (c ∷ bytes) (suc (length bytes)) f) (ap (put_first b) (line_whole c bytes (no_feed_behind b (c ∷ bytes) (suc (length bytes)) f)))

no_feed_found : (bytes : List ℕ) (n : ℕ) → ((k : ℕ) → 0 ≤ k → k < n → is_byte 10 (slice_index bytes k) ≡ true → ⊥) → NoFeed bytes n
no_feed_found bytes n h = record { before = λ k l. elim (cases_Bool (eqb (get_or bytes k 0) 10)) [ inl t ↦ absurd (h k (omega arith) l t) | inr f ↦ f ] }

-- a line feed ends a line
pub first_cut : (bytes : List ℕ) (n : ℕ) → n < length bytes → eqb (slice_index bytes n) 10 ≡ true → ((k : ℕ) → 0 ≤ k → k < n → is_byte 10 (slice_index bytes k) ≡ true → ⊥)
    → lines_of bytes ≡ take n bytes ∷ lines_of (drop (suc n) bytes)
first_cut bytes n h e f = line_cut bytes n h e (no_feed_found bytes n f)

-- without one there is one line
pub one_line : (bytes : List ℕ) → 0 < length bytes → ((k : ℕ) → 0 ≤ k → k < length bytes → is_byte 10 (slice_index bytes k) ≡ true → ⊥) → lines_of bytes ≡ bytes ∷ []
one_line [] h f = absurd (omega arith)
one_line (b ∷ bytes) h f = line_whole b bytes (no_feed_found (b ∷ bytes) (suc (length bytes)) f)
