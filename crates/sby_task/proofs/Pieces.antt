-- Where a list is cut at its commas.
use Rattle.std.proofs.Common.{◌≡◌, ℕ, zero, suc, ◌<◌, ◌≤◌, true, false, eqb, List, [], ◌∷◌, length, take, drop, get_or, refl, ap, inl, inr, arith}
use Rattle.std.proofs.lemmas.Bool.{cases_Bool, eqb-true}
use Rattle.std.specs.Prelude.{slice_index}
use Rattle.memchr.specs.Find.{is_byte}
use Rattle.sby_file.specs.Text.{put_first}
use Rattle.sby_task.specs.Values.{pieces_of}

record NoComma (bytes : List ℕ) (n : ℕ) : Type 0 where
  pub before : (k : ℕ) → k < n → eqb (get_or bytes k 0) 44 ≡ false

no_comma_behind : (b : ℕ) (bytes : List ℕ) (n : ℕ) → NoComma (b ∷ bytes) (suc n) → NoComma bytes n
no_comma_behind b bytes n h = record { before = λ k l. h.before (suc k) (omega arith) }

no_comma_first : (b : ℕ) (bytes : List ℕ) (n : ℕ) → NoComma (b ∷ bytes) (suc n) → eqb b 44 ≡ false
no_comma_first b bytes n h = h.before 0 (omega arith)

piece_cut : (bytes : List ℕ) (n : ℕ) → n < length bytes → eqb (get_or bytes n 0) 44 ≡ true → NoComma bytes n → pieces_of bytes ≡ take n bytes ∷ pieces_of (drop (suc n) bytes)
piece_cut [] n h e f = absurd (omega arith)
piece_cut (b ∷ bytes) zero h e f = rw e refl
piece_cut (b ∷ bytes) (suc n) h e f = rw (no_comma_first b bytes n f) (ap (put_first b) (piece_cut bytes n (omega arith) e (no_comma_behind b bytes n f)))

piece_whole : (bytes : List ℕ) → NoComma bytes (length bytes) → pieces_of bytes ≡ bytes ∷ []
piece_whole [] f = refl
piece_whole (b ∷ bytes) f = rw (no_comma_first b bytes (length bytes) f) (ap (put_first b) (piece_whole bytes (no_comma_behind b bytes (length bytes) f)))

no_comma_found : (bytes : List ℕ) (n : ℕ) → ((k : ℕ) → 0 ≤ k → k < n → is_byte 44 (slice_index bytes k) ≡ true → ⊥) → NoComma bytes n
no_comma_found bytes n h = record { before = λ k l. elim (cases_Bool (eqb (get_or bytes k 0) 44)) [ inl t ↦ absurd (h k (omega arith) l t) | inr f ↦ f ] }

-- a comma ends a piece
pub first_cut : (bytes : List ℕ) (n : ℕ) → n < length bytes → eqb (slice_index bytes n) 44 ≡ true → ((k : ℕ) → 0 ≤ k → k < n → is_byte 44 (slice_index bytes k) ≡ true → ⊥)
    → pieces_of bytes ≡ take n bytes ∷ pieces_of (drop (suc n) bytes)
first_cut bytes n h e f = piece_cut bytes n h e (no_comma_found bytes n f)

-- without one there is one piece
pub one_piece : (bytes : List ℕ) → ((k : ℕ) → 0 ≤ k → k < length bytes → is_byte 44 (slice_index bytes k) ≡ true → ⊥) → pieces_of bytes ≡ bytes ∷ []
one_piece bytes f = piece_whole bytes (no_comma_found bytes (length bytes) f)

pub comma_is_ascii : (bytes : List ℕ) (n : ℕ) → eqb (slice_index bytes n) 44 ≡ true → get_or bytes n 0 < 128
comma_is_ascii bytes n e = omega (arith, eqb-true (get_or bytes n 0) 44 e)
