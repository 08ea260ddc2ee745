-- Bytes that change nothing are passed over.
use Rattle.std.proofs.Common.{◌≡◌, ℕ, zero, suc, ◌+◌, ◌<◌, ◌≤◌, Bool, true, false, eqb, List, [], ◌∷◌, length, take, drop, ap, sym, ◌∙◌, inl, inr, subst, arith}
use Rattle.std.specs.Prelude.{slice_index}
use Rattle.std.proofs.lemmas.Bool.{cases_Bool}
use Rattle.std.proofs.lemmas.List.{length-take-le, take-append-drop}
use Rattle.memchr.specs.Find.{is_byte}
use Rattle.btor_witness.specs.Grammar.{is_blank}
use Rattle.btor_witness.specs.Machine.{ReadingOf, ScanOf, WitnessesOf, after, is_over}
use Rattle.btor_witness.specs.Streams.{NoFeed}
use Rattle.btor_witness.specs.declared.line.Line.{Line}
use Rattle.btor_witness.specs.declared.line.Line.TheVariants as line
use Rattle.btor_witness.proofs.Cutting.{after_append}

pub no_feed_take : (bytes : List ℕ) (n : ℕ) → n ≤ length bytes → ((k : ℕ) → 0 ≤ k → k < n → is_byte 10 (slice_index bytes k) ≡ true → ⊥) → NoFeed (take n bytes)
no_feed_take [] zero h f = tt
no_feed_take [] (suc n) h f = tt
no_feed_take (b ∷ bytes) zero h f = tt
no_feed_take (b ∷ bytes) (suc n) h f =
    (elim (cases_Bool (eqb b 10)) [ inl t ↦ absurd (f 0 (omega arith) (omega arith) t) | inr g ↦ g ], no_feed_take bytes n (omega arith) (λ k l m e. f (suc k) (omega arith) (omega arith) e))

-- in a line that is no line of a witness
abbrev other : ReadingOf → List Bool → ℕ → ℕ → WitnessesOf
other r bits first taken = record { reading = r; scan = record { line = line.Other; bits = bits }; first = first; taken = taken }

skip_other : (r : ReadingOf) (bits : List Bool) (first taken : ℕ) (bytes : List ℕ) → is_over r.spot ≡ false → NoFeed bytes → after (other r bits first taken) bytes ≡ other r bits first (taken + length bytes)
skip_other r bits first taken [] o h = ap (other r bits first) (omega arith)
skip_other r bits first taken (b ∷ bytes) o (f, h) = elim (cases_Bool (is_blank b)) [
  | inl t ↦ rw (o, f, t) (skip_other r bits first (taken + 1) bytes o h ∙ ap (other r bits first) (omega arith))
  | inr g ↦ rw (o, f, g) (skip_other r bits first (taken + 1) bytes o h ∙ ap (other r bits first) (omega arith))
]

passed_other : (r : ReadingOf) (bits : List Bool) (first taken n : ℕ) (bytes : List ℕ) → is_over r.spot ≡ false → n ≤ length bytes → NoFeed (take n bytes)
    → after (other r bits first (taken + n)) (drop n bytes) ≡ after (other r bits first taken) bytes
passed_other r bits first taken n bytes o l h =
    let s = skip_other r bits first taken (take n bytes) o h in
    let len : taken + length (take n bytes) ≡ taken + n = ap (λ k. taken + k) (length-take-le n bytes l) in
    sym (ap (after (other r bits first taken)) (sym (take-append-drop n bytes)) ∙ after_append (other r bits first taken) (take n bytes) (drop n bytes)
    ∙ ap (λ v. after v (drop n bytes)) (s ∙ ap (other r bits first) len))

pub passed : (r : ReadingOf) (s : ScanOf) (first taken n : ℕ) (bytes : List ℕ) → s.line ≡ line.Other → is_over r.spot ≡ false → n ≤ length bytes → NoFeed (take n bytes)
    → after (record { reading = r; scan = s; first = first; taken = taken + n }) (drop n bytes) ≡ after (record { reading = r; scan = s; first = first; taken = taken }) bytes
passed r s first taken n bytes e o l h =
    subst (λ (x : Line). after (record { reading = r; scan = record { line = x; bits = s.bits }; first = first; taken = taken + n }) (drop n bytes) ≡ after (record { reading = r; scan = record { line = x; bits = s.bits }; first = first; taken = taken }) bytes)
    (sym e) (passed_other r s.bits first taken n bytes o l h)
