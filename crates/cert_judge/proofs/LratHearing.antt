-- A certificate of hinted text hears what is said.
use Rattle.std.proofs.Common.{◌≡◌, ℕ, zero, suc, ◌<◌, Bool, true, false, not, ◌&&◌, List, [], ◌∷◌, length, Option, Some, None, refl, sym, ap, ◌∙◌, inl, inr, arith}
use Rattle.std.specs.Prelude.{IsSome, is_some, slice_index_or}
use Rattle.std.proofs.lemmas.Bool.{cases_Bool}
use Rattle.cnf_form.specs.Cnf.{LitOf, FormulaOf, Satisfies}
use Rattle.cert_stream.specs.LratTelling.{LratSaying, IsValuesEnd}
use Rattle.cert_stream.specs.declared.lrat.mode.Hint.{Hint}
use Rattle.lrat_check.specs.Checking.{HintedOf, Starts}
use Rattle.lrat_check.specs.Hints.{Live, numbered}
use Rattle.cert_judge.specs.Certificate.{CertificateOf}
use Rattle.cert_judge.specs.Leading.{Leads}
use Rattle.cert_judge.specs.Lrat.{Held, first_bad, held, held_first, ids_of, is_good}
use Rattle.cert_judge.specs.Reading.{lrat_meaning}
use Rattle.cert_judge.specs.Values.{IsFirstUnsatisfied, values_of}
use Rattle.cert_judge.specs.declared.stream.CertKind.TheVariants.{NotSatisfying}
use Rattle.cert_judge.specs.declared.stream.Outcome.{Outcome}
use Rattle.cert_judge.specs.declared.stream.Outcome.TheVariants.{Satisfied, Bad as BadOutcome}
use Rattle.cert_judge.proofs.Leading.{certificate, from_fields, settles}

-- the calls of a receiver
module _ (x : CertificateOf HintedOf) (f : FormulaOf) (F : HintedOf) (bits : List Bool) (o : Option Outcome) (e : certificate f F bits o ≡ x) (n : x.outcome ≡ None) where
  abbrev LeadsTo : LratSaying → CertificateOf HintedOf → Type 0
  LeadsTo s y = Leads lrat_meaning x (s ∷ []) y

  by : (s : LratSaying) (y : CertificateOf HintedOf) → Leads lrat_meaning (certificate f F bits None) (s ∷ []) y → LeadsTo s y
  by s y h = from_fields lrat_meaning x f F bits o e n s y h

  pub heard_satisfied : Satisfies (values_of bits) f.clauses → LeadsTo IsValuesEnd (certificate f F bits (Some Satisfied))
  heard_satisfied s =
      by IsValuesEnd (certificate f F bits (Some Satisfied)) (record { formula = refl; size = refl; fate = λ rest fate h. inl (s, h); values = λ rest y h. h.1; satisfied = λ q. s })

  pub heard_not_satisfying : (k : ℕ) → IsFirstUnsatisfied (values_of bits) f.clauses k → LeadsTo IsValuesEnd (certificate f F bits (Some (BadOutcome (record { kind = NotSatisfying; at = k }))))
  heard_not_satisfying k u =
      by IsValuesEnd (certificate f F bits (Some (BadOutcome (record { kind = NotSatisfying; at = k }))))
      (settles lrat_meaning f F F bits IsValuesEnd (BadOutcome (record { kind = NotSatisfying; at = k })) (λ q. cc) (λ rest fate h. inr (k, u, h)))

-- what a checker holds at first
pub starts_held : (f : FormulaOf) (h : HintedOf) → Starts f h → held h ≡ held_first f.clauses
starts_held f h s =
    let e : held h ≡ (let k : Held = record { live = numbered f.clauses; last = h.last_id } in k) = ap (λ z. (let k : Held = record { live = z; last = h.last_id } in k)) s.live in
    e ∙ ap (λ n. (let k : Held = record { live = numbered f.clauses; last = n } in k)) s.last_id

-- good hints are ids of live clauses
good_hint : (live : Live) (i : Hint) (hints : List Hint) → first_bad live (i ∷ hints) ≡ None → IsSome (live i.id) × (first_bad live hints ≡ None)
good_hint live i hints e =
    elim (cases_Bool (is_good live i)) [
      | inl t ↦ let k : first_bad live (i ∷ hints) ≡ first_bad live hints = rw t refl in (good_lives i.negated (live i.id) t, sym k ∙ e)
      | inr f ↦ let k : first_bad live (i ∷ hints) ≡ Some i = rw f refl in absurd (let q = sym k ∙ e in cc)
    ]
  where
    good_lives : (negated : Bool) (o : Option (List LitOf)) → (not negated && is_some o) ≡ true → IsSome o
    good_lives true o e = absurd (let k = e in cc)
    good_lives false None e = absurd (let k = e in cc)
    good_lives false (Some c) e = refl

pub good_ids : (live : Live) (hints : List Hint) → first_bad live hints ≡ None → (k d : ℕ) → k < length (ids_of hints) → IsSome (live (slice_index_or (ids_of hints) k d))
good_ids live [] e k d l = absurd (omega arith)
good_ids live (i ∷ hints) e zero d l = (good_hint live i hints e).0
good_ids live (i ∷ hints) e (suc k) d l = good_ids live hints (good_hint live i hints e).1 k d (omega arith)
