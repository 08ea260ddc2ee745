-- Where a run, a string and a token end.
use Rattle.std.proofs.Common.{◌≡◌, ℕ, Bool, true, false, cond, not, ◌||◌, eqb, ◌≤◌, List, [], ◌∷◌, ◌++◌, length, get_or, drop, Option, Some, None, refl, ap, subst, ◌⊎◌, inl, inr, arith}
use Rattle.std.specs.Prelude.{IsTrue, IsFalse}
use Rattle.std.proofs.lemmas.Bool.{eqb-true, eq-eqb}
use Rattle.rtlil_lex.specs.Tokens.{is_space, is_feed, is_break, begins_name, begins_word, is_quote, is_backslash, ends_at, IsRun, Gap, IsQuoted, IsToken}
use Rattle.rtlil_lex.specs.Tokens.Gap.{space, comment}
use Rattle.rtlil_lex.specs.Tokens.IsQuoted.{closing, escape, other}
use Rattle.rtlil_lex.specs.Tokens.IsToken.{name, string, word}
use Rattle.rtlil_lex.specs.Steps.{after_run_of, after_quote_from, after_quote_of, ended, after_token_of, Stops}

-- the run before what is left
pub run_takes : (ends : ℕ → Bool) (bytes : List ℕ) → (run : List ℕ) × (bytes ≡ run ++ after_run_of ends bytes) × IsRun ends run (after_run_of ends bytes)
run_takes ends [] = ([], refl, record { inside = tt; after = refl })
run_takes ends (b ∷ bytes) =
    elim (ends b) as (λ v. ends b ≡ v → (run : List ℕ) × (b ∷ bytes ≡ run ++ cond v (b ∷ bytes) (after_run_of ends bytes)) × IsRun ends run (cond v (b ∷ bytes) (after_run_of ends bytes))) [
      | true ↦ λ e. ([], refl, record { inside = tt; after = e })
      | false ↦ λ e. let r = run_takes ends bytes in (b ∷ r.0, ap (λ (x : List ℕ). b ∷ x) r.1, record { inside = (e, r.2.inside); after = r.2.after })
    ] refl

pub after_run_shorter : (ends : ℕ → Bool) (bytes : List ℕ) → length (after_run_of ends bytes) ≤ length bytes
after_run_shorter ends [] = omega arith
after_run_shorter ends (b ∷ bytes) =
    elim (ends b) as (λ v. length (cond v (b ∷ bytes) (after_run_of ends bytes)) ≤ length (b ∷ bytes)) [
      | true ↦ omega arith
      | false ↦ let h = after_run_shorter ends bytes in omega arith
    ]

run_stops : (ends : ℕ → Bool) (rest : List ℕ) → IsTrue (ends_at ends rest) → after_run_of ends rest ≡ rest
run_stops ends [] h = refl
run_stops ends (b ∷ rest) h = rw h refl

-- what is left after a run is what follows it
pub run_again : (ends : ℕ → Bool) (run rest : List ℕ) → IsRun ends run rest → after_run_of ends (run ++ rest) ≡ rest
run_again ends [] rest h = run_stops ends rest h.after
run_again ends (b ∷ run) rest h = rw h.inside.0 (run_again ends run rest (record { inside = h.inside.1; after = h.after }))

-- a gap begins with white space, or with a comment
pub gap_space : (behind bytes : List ℕ) → 1 ≤ length bytes → IsTrue (is_space (get_or bytes 0 0)) → Gap behind (drop 1 bytes) → Gap behind bytes
gap_space behind [] h s g = absurd (omega arith)
gap_space behind (b ∷ bytes) h s g = space b bytes s g

pub gap_comment : (behind bytes : List ℕ) → 1 ≤ length bytes → get_or bytes 0 0 ≡ 35 → Gap behind (after_run_of is_feed (drop 1 bytes)) → Gap behind bytes
gap_comment behind [] h s g = absurd (omega arith)
gap_comment behind (b ∷ bytes) h s g =
    let r = run_takes is_feed bytes in
    comment b bytes r.0 (after_run_of is_feed bytes) (eq-eqb b 35 s) r.1 r.2 g

-- ---- strings

pub quote_again : (text rest : List ℕ) → IsQuoted text → after_quote_of (text ++ rest) ≡ Some rest
quote_again text rest (closing b q) = rw q refl
quote_again text rest (escape b c more q h) =
    let no : is_quote b ≡ false = let e = eqb-true b 92 q in rw e refl in
    rw (no, q) (quote_again more rest h)
quote_again text rest (other b more q s h) = rw (q, s) (quote_again more rest h)

-- the string's text before what is left
abbrev Quotes : Bool → List ℕ → List ℕ → Type 0
Quotes false bytes rest = (text : List ℕ) × IsQuoted text × (bytes ≡ text ++ rest)
Quotes true bytes rest = (c : ℕ) × (text : List ℕ) × IsQuoted text × (bytes ≡ c ∷ (text ++ rest))

quote_takes_from : (escaped : Bool) (bytes rest : List ℕ) → after_quote_from escaped bytes ≡ Some rest → Quotes escaped bytes rest
quote_takes_from true [] rest e = absurd cc
quote_takes_from false [] rest e = absurd cc
quote_takes_from true (c ∷ bytes) rest e = let r = quote_takes_from false bytes rest e in (c, r.0, r.1, ap (λ (x : List ℕ). c ∷ x) r.2)
quote_takes_from false (b ∷ bytes) rest e =
    elim (is_quote b) as (λ v. is_quote b ≡ v → cond v (Some bytes) (after_quote_from (is_backslash b) bytes) ≡ Some rest → Quotes false (b ∷ bytes) rest) [
      | true ↦ λ q e. let same : bytes ≡ rest = cc in (b ∷ [], closing b q, ap (λ (x : List ℕ). b ∷ x) same)
      | false ↦ λ q e. elim (is_backslash b) as (λ v. is_backslash b ≡ v → after_quote_from v bytes ≡ Some rest → Quotes false (b ∷ bytes) rest) [
        | true ↦ λ s e. let r = quote_takes_from true bytes rest e in (b ∷ r.0 ∷ r.1, escape b r.0 r.1 s r.2, ap (λ (x : List ℕ). b ∷ x) r.3)
        | false ↦ λ s e. let r = quote_takes_from false bytes rest e in (b ∷ r.0, other b r.0 q s r.1, ap (λ (x : List ℕ). b ∷ x) r.2)
      ] refl e
    ] refl e

pub quote_takes : (bytes rest : List ℕ) → after_quote_of bytes ≡ Some rest → (text : List ℕ) × IsQuoted text × (bytes ≡ text ++ rest)
quote_takes bytes rest e = quote_takes_from false bytes rest e

-- ---- tokens

or_true : (a b : Bool) → (a || b) ≡ true → (a ≡ true) ⊎ (b ≡ true)
or_true true b h = inl refl
or_true false b h = inr h

none_of : (a b c : Bool) → not (a || b || c) ≡ true → (a ≡ false) × (b ≡ false) × (c ≡ false)
none_of false false false h = (refl, refl, refl)
none_of false false true h = absurd cc
none_of false true c h = absurd cc
none_of true b c h = absurd cc

-- what begins a name or a string is no break, and what begins a word is neither
name_stops : (b : ℕ) → IsTrue (begins_name b) → IsFalse (is_break b)
name_stops b h =
    elim (or_true (eqb b 92) (eqb b 36) h) [
      | inl e ↦ let k = eqb-true b 92 e in rw k refl
      | inr e ↦ let k = eqb-true b 36 e in rw k refl
    ]

quote_stops : (b : ℕ) → IsTrue (is_quote b) → IsFalse (is_break b) × IsFalse (begins_name b)
quote_stops b h = let e = eqb-true b 34 h in rw e (refl, refl)

word_is : (b : ℕ) → IsTrue (begins_word b) → IsFalse (is_break b) × IsFalse (begins_name b) × IsFalse (is_quote b)
word_is b h = none_of (is_break b) (begins_name b) (is_quote b) h

is_word : (b : ℕ) → IsFalse (is_break b) → IsFalse (begins_name b) → IsFalse (is_quote b) → IsTrue (begins_word b)
is_word b h n q = rw (h, n, q) refl

pub token_again : (text rest : List ℕ) → IsToken text rest → (after_token_of (text ++ rest) ≡ Some rest) × Stops (text ++ rest)
token_again text rest (name b run after h r) = (rw (h, run_again is_space run rest r) refl, name_stops b h)
token_again text rest (string b more after q h s) =
    let stops = quote_stops b q in
    (rw (stops.1, q, quote_again more rest h, s) refl, stops.0)
token_again text rest (word b run after h r) =
    let is = word_is b h in
    (rw (is.1, is.2, run_again is_break run rest r) refl, is.0)

is_ended : (found : Option (List ℕ)) (rest : List ℕ) → ended found ≡ Some rest → (found ≡ Some rest) × IsTrue (ends_at is_break rest)
is_ended None rest e = absurd cc
is_ended (Some after) rest e =
    elim (ends_at is_break after) as (λ v. ends_at is_break after ≡ v → cond v (Some after) None ≡ Some rest → (Some after ≡ Some rest) × IsTrue (ends_at is_break rest)) [
      | true ↦ λ h e. (e, let same : after ≡ rest = cc in subst (λ (x : List ℕ). IsTrue (ends_at is_break x)) same h)
      | false ↦ λ h e. absurd cc
    ] refl e

abbrev Takes : List ℕ → List ℕ → Type 0
Takes bytes rest = (text : List ℕ) × IsToken text rest × (bytes ≡ text ++ rest)

name_takes : (b : ℕ) (bytes rest : List ℕ) → IsTrue (begins_name b) → after_run_of is_space bytes ≡ rest → Takes (b ∷ bytes) rest
name_takes b bytes rest h e =
    let r = run_takes is_space bytes in
    subst (λ (x : List ℕ). Takes (b ∷ bytes) x) e (b ∷ r.0, name b r.0 (after_run_of is_space bytes) h r.2, ap (λ (x : List ℕ). b ∷ x) r.1)

word_takes : (b : ℕ) (bytes rest : List ℕ) → IsTrue (begins_word b) → after_run_of is_break bytes ≡ rest → Takes (b ∷ bytes) rest
word_takes b bytes rest h e =
    let r = run_takes is_break bytes in
    subst (λ (x : List ℕ). Takes (b ∷ bytes) x) e (b ∷ r.0, word b r.0 (after_run_of is_break bytes) h r.2, ap (λ (x : List ℕ). b ∷ x) r.1)

string_takes : (b : ℕ) (bytes rest : List ℕ) → IsTrue (is_quote b) → ended (after_quote_of bytes) ≡ Some rest → Takes (b ∷ bytes) rest
string_takes b bytes rest q e =
    let found = is_ended (after_quote_of bytes) rest e in
    let text = quote_takes bytes rest found.0 in
    (b ∷ text.0, string b text.0 rest q text.1 found.1, ap (λ (x : List ℕ). b ∷ x) text.2)

pub token_takes : (bytes rest : List ℕ) → Stops bytes → after_token_of bytes ≡ Some rest → (text : List ℕ) × IsToken text rest × (bytes ≡ text ++ rest)
token_takes [] rest h e = absurd cc
token_takes (b ∷ bytes) rest h e =
    elim (begins_name b) as (λ v. begins_name b ≡ v → cond v (Some (after_run_of is_space bytes)) (cond (is_quote b) (ended (after_quote_of bytes)) (Some (after_run_of is_break bytes))) ≡ Some rest → Takes (b ∷ bytes) rest) [
      | true ↦ λ n e. name_takes b bytes rest n cc
      | false ↦ λ n e. elim (is_quote b) as (λ v. is_quote b ≡ v → cond v (ended (after_quote_of bytes)) (Some (after_run_of is_break bytes)) ≡ Some rest → Takes (b ∷ bytes) rest) [
        | true ↦ λ q e. string_takes b bytes rest q e
        | false ↦ λ q e. word_takes b bytes rest (is_word b h n q) cc
      ] refl e
    ] refl e

-- only a string may fail to be a token
pub quote_is : (b : ℕ) (bytes : List ℕ) → after_token_of (b ∷ bytes) ≡ None → b ≡ 34
quote_is b bytes e =
    elim (begins_name b) as (λ v. cond v (Some (after_run_of is_space bytes)) (cond (is_quote b) (ended (after_quote_of bytes)) (Some (after_run_of is_break bytes))) ≡ None → b ≡ 34) [
      | true ↦ λ e. absurd cc
      | false ↦ λ e. elim (is_quote b) as (λ v. is_quote b ≡ v → cond v (ended (after_quote_of bytes)) (Some (after_run_of is_break bytes)) ≡ None → b ≡ 34) [
        | true ↦ λ q e. eqb-true b 34 q
        | false ↦ λ q e. absurd cc
      ] refl e
    ] e
