-- Comments are passed over.
use Rattle.std.proofs.Common.{◌≡◌, ℕ, zero, suc, ◌+◌, ◌<◌, ◌≤◌, Bool, true, eqb, List, [], ◌∷◌, ◌++◌, length, take, drop, refl, ap, sym, ◌∙◌, inl, inr, arith, subst}
use Rattle.std.proofs.lemmas.Bool.{cases_Bool}
use Rattle.std.proofs.lemmas.List.{length-take-le, take-append-drop}
use Rattle.std.specs.Prelude.{slice_index}
use Rattle.memchr.specs.Find.{is_byte}
use Rattle.cnf_form.specs.Cnf.{LitOf}
use Rattle.cert_stream.specs.Machine.{DrupOf}
use Rattle.cert_stream.specs.Telling.{TakesMemory, after, said}
use Rattle.cert_stream.specs.Text.{NoFeed, is_blank}
use Rattle.cert_stream.specs.declared.mode.Mode.{Mode}
use Rattle.cert_stream.specs.declared.mode.Mode.TheVariants.{Skip}
use Rattle.cert_stream.proofs.Cutting.{after_append, said_append, memory_append}
use Rattle.cert_stream.proofs.Turning.{parser}

-- Bytes of a comment only count: they may be passed over at once.
pub skip_after : (vars place : ℕ) (amid : Bool) (lits : List LitOf) (t : List ℕ) (taken : ℕ) → NoFeed t
    → (after (parser vars taken place (Skip amid) lits) t ≡ parser vars (taken + length t) place (Skip amid) lits) × (said (parser vars taken place (Skip amid) lits) t ≡ [])
skip_after vars place amid lits [] taken h = (ap (λ k. parser vars k place (Skip amid) lits) (omega arith), refl)
skip_after vars place amid lits (b ∷ bs) taken (h, hs) =
    let again = skip_after vars place amid lits bs (taken + 1) hs in
    let k : taken + 1 + length bs ≡ taken + length (b ∷ bs) = omega arith in
    elim (cases_Bool (is_blank b)) [
      | inl t ↦ rw (h, t) (again.0 ∙ ap (λ k. parser vars k place (Skip amid) lits) k, again.1)
      | inr g ↦ rw (h, g) (again.0 ∙ ap (λ k. parser vars k place (Skip amid) lits) k, again.1)
    ]

pub no_feed_take : (bytes : List ℕ) (n : ℕ) → n ≤ length bytes → ((k : ℕ) → 0 ≤ k → k < n → is_byte 10 (slice_index bytes k) ≡ true → ⊥) → NoFeed (take n bytes)
no_feed_take [] zero h f = tt
no_feed_take [] (suc n) h f = tt
no_feed_take (b ∷ bytes) zero h f = tt
no_feed_take (b ∷ bytes) (suc n) h f =
    (elim (cases_Bool (eqb b 10)) [ inl t ↦ absurd (f 0 (omega arith) (omega arith) t) | inr g ↦ g ], no_feed_take bytes n (omega arith) (λ k l m e. f (suc k) (omega arith) (omega arith) e))

module _ (vars taken place : ℕ) (lits : List LitOf) (bytes : List ℕ) (n : ℕ) (l : n ≤ length bytes) (h : NoFeed (take n bytes)) where
  abbrev at : Mode → ℕ → DrupOf
  at m k = parser vars k place m lits

  -- from here on, or from behind these bytes
  abbrev Passed : Mode → Type 0
  Passed m =
      (after (at m (taken + n)) (drop n bytes) ≡ after (at m taken) bytes) × (said (at m (taken + n)) (drop n bytes) ≡ said (at m taken) bytes)
      × (TakesMemory (at m (taken + n)) (drop n bytes) → TakesMemory (at m taken) bytes)

  skip_passed : (amid : Bool) → Passed (Skip amid)
  skip_passed amid =
      let w : DrupOf = at (Skip amid) taken in
      let s = skip_after vars place amid lits (take n bytes) taken h in
      let e : after w (take n bytes) ≡ at (Skip amid) (taken + n) = s.0 ∙ ap (λ k. at (Skip amid) (taken + k)) (length-take-le n bytes l) in
      let whole : take n bytes ++ drop n bytes ≡ bytes = take-append-drop n bytes in (
        sym (ap (λ v. after v (drop n bytes)) e) ∙ sym (after_append w (take n bytes) (drop n bytes)) ∙ ap (after w) whole,
        sym (ap (λ v. said v (drop n bytes)) e) ∙ sym (ap (λ z. z ++ said (after w (take n bytes)) (drop n bytes)) s.1) ∙ sym (said_append w (take n bytes) (drop n bytes)) ∙ ap (said w) whole,
        λ k. subst (TakesMemory w) whole (memory_append w (take n bytes) (drop n bytes) (subst (λ (z : DrupOf). TakesMemory z (drop n bytes)) (sym e) k)),
      )

  pub passed : (mode : Mode) (amid : Bool) → mode ≡ Skip amid → Passed mode
  passed mode amid m = subst Passed (sym m) (skip_passed amid)
