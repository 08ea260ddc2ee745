-- A host and a port.
use Rattle.std.proofs.Common.{◌≡◌, ◌≢◌, ◌↔◌, ℕ, zero, suc, ◌+◌, ◌-◌, ◌<◌, ◌≤◌, List, [], ◌∷◌, ◌++◌, length, get_or, take, drop, length-append, refl, sym, ap, ◌∙◌, arith, inl, inr}
use Rattle.std.specs.Prelude.{Option, Some, None, IsTrue, is_some, decimal, ◌==◌}
use Rattle.std.specs.Str.Parse.{AllDigits}
use Rattle.std.proofs.lemmas.Bool.{cases_order}
use Rattle.std.proofs.lemmas.Fmt.{decimal_is_IsNumeral}
use Rattle.std.proofs.lemmas.List.{drop_at, get_or-append-add}
use Rattle.std.proofs.lemmas.Str.Parse.{digit_from_value}
use Rattle.std.proofs.Math.Seq.{get_or-append_seam}
use Rattle.memchr.specs.Find.{Nowhere, Passes, is_byte}
use Rattle.sby_terms.specs.Address.{IsAddress}

-- what stands around a place
around : (word : List ℕ) (at : ℕ) → at < length word → word ≡ take at word ++ get_or word at 0 ∷ drop (suc at) word
around [] at h = absurd (omega (arith, h))
around (x ∷ xs) zero h = refl
around (x ∷ xs) (suc at) h = ap (λ ys. x ∷ ys) (around xs at (omega (arith, h)))

-- no digit is a colon
no_colon : (ds : List ℕ) (k : ℕ) → AllDigits 10 ds → get_or ds k 0 ≡ 58 → ⊥
no_colon [] k d e = omega (arith, e)
no_colon (c ∷ cs) zero d e = omega (arith, e, digit_from_value c d.0)
no_colon (c ∷ cs) (suc k) d e = no_colon cs k d.1 e

in_port : (host : List ℕ) (port at : ℕ) → port ≤ 65535 → length host < at → get_or (host ++ 58 ∷ decimal port) at 0 ≡ 58 → ⊥
in_port host port at small after e =
    let n = at - length host - 1 in
    let is : at ≡ length host + suc n = omega (arith, after) in
    let k : get_or (decimal port) n 0 ≡ 58 = sym (get_or-append-add host (58 ∷ decimal port) (suc n) 0) ∙ ap (λ z. get_or (host ++ 58 ∷ decimal port) z 0) (sym is) ∙ e in
    no_colon (decimal port) n (decimal_is_IsNumeral port (omega (arith, small))).0.1 k

-- a colon stands before the port
colon : (word host : List ℕ) (port : ℕ) → word ≡ host ++ 58 ∷ decimal port → (length host < length word) × Passes (is_byte 58) word (length host)
colon word host port e =
    let l = length-append host (58 ∷ decimal port) in
    let n : length word ≡ length host + suc (length (decimal port)) = ap length e ∙ l in
    (omega (arith, n), ap (λ w. get_or w (length host) 0 == 58) e ∙ ap (λ z. z == 58) (get_or-append_seam host 58 (decimal port) 0))

-- a word without a colon
pub no_address : (word : List ℕ) → Nowhere (Passes (is_byte 58) word) 0 (length word) → IsAddress word → ⊥
no_address word none a = let c = colon word a.0 a.1 a.2 in none (length a.0) (omega arith) c.0 c.1

-- the last colon is that before the port
last_colon : (word host : List ℕ) (port at : ℕ) → word ≡ host ++ 58 ∷ decimal port → port ≤ 65535 → get_or word at 0 ≡ 58 → Nowhere (Passes (is_byte 58) word) (at + 1) (length word) → at ≡ length host
last_colon word host port at e small is after = elim (cases_order at (length host)) [
  | inl same ↦ same
  | inr (inl before) ↦ absurd (let c = colon word host port e in after (length host) (omega (arith, before)) c.0 c.1)
  | inr (inr past) ↦ absurd (in_port host port at small past (ap (λ w. get_or w at 0) (sym e) ∙ is))
]

-- a word that begins with its last colon
pub no_host : (word : List ℕ) (at : ℕ) → at ≡ 0 → get_or word at 0 ≡ 58 → Nowhere (Passes (is_byte 58) word) (at + 1) (length word) → IsAddress word → ⊥
no_host word at zero_is is after a = omega (arith, zero_is, last_colon word a.0 a.1 at a.2 a.5 is after, a.3)

-- a word whose last colon has a host before it
pub some_host : (word : List ℕ) (at : ℕ) (port : Option ℕ) → at ≢ 0 → at < length word → get_or word at 0 ≡ 58 → Nowhere (Passes (is_byte 58) word) (at + 1) (length word)
    → ((n : ℕ) → (port ≡ Some n) ↔ ((drop (at + 1) word ≡ decimal n) × (1 ≤ n) × (n ≤ 65535))) → IsTrue (is_some port) ↔ IsAddress word
some_host word at None some low is after law = (
  λ t. absurd (let k = t in cc),
  λ a.
      let same = last_colon word a.0 a.1 at a.2 a.5 is after in
      let e : drop (at + 1) word ≡ decimal a.1 = ap (drop (at + 1)) (a.2 ∙ sym (append_one a.0 (decimal a.1))) ∙ drop_at (a.0 ++ 58 ∷ []) (decimal a.1) (at + 1) (length-append a.0 (58 ∷ []) ∙ omega (arith, same)) in
      absurd (let k = (law a.1).1 (e, a.4, a.5) in cc),
)
  where
    append_one : (xs ys : List ℕ) → (xs ++ 58 ∷ []) ++ ys ≡ xs ++ 58 ∷ ys
    append_one [] ys = refl
    append_one (x ∷ xs) ys = ap (λ z. x ∷ z) (append_one xs ys)
some_host word at (Some n) some low is after law = (
  λ t.
      let w = (law n).0 refl in
      let one : suc at ≡ at + 1 = omega arith in
      (take at word, n, around word at low ∙ ap (λ b. take at word ++ b ∷ drop (suc at) word) is ∙ ap (λ ds. take at word ++ 58 ∷ ds) (ap (λ n. drop n word) one ∙ w.0), length_take word at low some, w.1, w.2),
  λ a. refl,
)
  where
    length_take : (xs : List ℕ) (k : ℕ) → k < length xs → k ≢ 0 → 1 ≤ length (take k xs)
    length_take [] k h n = absurd (omega (arith, h))
    length_take (x ∷ xs) zero h n = absurd (n refl)
    length_take (x ∷ xs) (suc k) h n = omega arith
