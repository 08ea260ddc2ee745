-- Values in a table, and the first clause that they don't satisfy.
use Rattle.std.proofs.Common.{◌≡◌, ℕ, zero, suc, ◌+◌, ◌<◌, eqb, leb, List, [], ◌∷◌, ◌++◌, get_or, Some, refl, sym, ap, ◌∙◌, subst, inl, inr, arith, ◌⊎◌}
use Rattle.std.specs.Prelude.{Contains, Option, slice_get}
use Rattle.std.proofs.lemmas.Bool.{cases_Bool, eqb-true, eqb-false, leb-true, leb-false}
use Rattle.std.proofs.lemmas.Option.{slice_get_within, slice_get-get_or}
use Rattle.cnf_form.specs.Cnf.{LitOf, Assignment, SatisfiesClause, Satisfies}
use Rattle.cnf_form.proofs.Members.{Contains-cases, Contains-empty}
use Rattle.cnf_form.proofs.Rup.{clause_cases, lit_in-negate}
use Rattle.cert_judge.specs.Values.{IsFirstUnsatisfied, named, named_from}
use Rattle.cert_judge.specs.Fate.{Fate, Bad, ValuesFate}
use Rattle.cert_judge.specs.declared.stream.CertKind.TheVariants.{NotSatisfying}

-- some literals, then others
pub named_append : (x : Assignment) (a b : List LitOf) → named_from x (a ++ b) ≡ named_from (named_from x a) b
named_append x [] b = refl
named_append x (l ∷ a) b = named_append (named x l) a b

-- all clauses, one by one
contained : (F : List (List LitOf)) (i : ℕ) (c : List LitOf) → slice_get F i ≡ Some c → Contains F c
contained F i c e =
    let l = slice_get_within F i c e in
    let g = slice_get-get_or F i c l in
    let s : get_or F i c ≡ c = cc in
    (i, l, s)

pub not_satisfied : (x : Assignment) (F : List (List LitOf)) (n : ℕ) → Satisfies x F → IsFirstUnsatisfied x F n → ⊥
not_satisfied x F n s (i, c, e, g, fails, before) = fails (s c (contained F i c g))

one_unsatisfied : (x : Assignment) (F : List (List LitOf)) (m n : ℕ) → IsFirstUnsatisfied x F m → IsFirstUnsatisfied x F n → m ≡ n
one_unsatisfied x F m n (i, c, p, g, fails, before) (j, d, q, h, none, earlier) =
    elim (cases_Bool (leb i j)) [
      | inl l ↦ elim (cases_Bool (eqb i j)) [
        | inl e ↦ omega (arith, p, q, eqb-true i j e)
        | inr e ↦ absurd (fails (earlier i c (let k = eqb-false i j e in let b = leb-true i j l in omega (arith, k, b)) g))
      ]
      | inr l ↦ absurd (none (before j d (leb-false i j l) h))
    ]

some_unsatisfied : (x : Assignment) (F : List (List LitOf)) → Satisfies x F ⊎ ((n : ℕ) × IsFirstUnsatisfied x F n)
some_unsatisfied x [] = inl (λ c h. absurd (Contains-empty c h))
some_unsatisfied x (c ∷ F) =
    elim (clause_cases x c) [
      | inl s ↦ elim (some_unsatisfied x F) [
        | inl all ↦ inl (λ d h. elim (Contains-cases c d F h) [ inl e ↦ subst (SatisfiesClause x) e s | inr k ↦ all d k ])
        | inr (n, (i, d, p, g, fails, before)) ↦ inr (n + 1, (suc i, d, omega (arith, p), g, fails, further s i before))
      ]
      | inr neg ↦ inr (1, (0, c, refl, refl, λ w. lit_in-negate x w.0 w.2 (neg w.0 w.1), λ j d l h. absurd (omega arith)))
    ]
  where
    further : SatisfiesClause x c → (i : ℕ) → ((j : ℕ) (d : List LitOf) → j < i → slice_get F j ≡ Some d → SatisfiesClause x d)
        → (j : ℕ) (d : List LitOf) → j < suc i → slice_get (c ∷ F) j ≡ Some d → SatisfiesClause x d
    further s i before zero d l h = let e : c ≡ d = cc in subst (SatisfiesClause x) e s
    further s i before (suc j) d l h = before j d (omega arith) h

-- the fate of values that end
pub values_once : (C : List (List LitOf)) (x : Assignment) (f g : Option Fate) → ValuesFate C x f → ValuesFate C x g → f ≡ g
values_once C x f g (inl (s, e)) (inl (t, h)) = e ∙ sym h
values_once C x f g (inl (s, e)) (inr (n, u, h)) = absurd (not_satisfied x C n s u)
values_once C x f g (inr (m, u, e)) (inl (t, h)) = absurd (not_satisfied x C m t u)
values_once C x f g (inr (m, u, e)) (inr (n, w, h)) = e ∙ ap (λ k. Some (Bad NotSatisfying k)) (one_unsatisfied x C m n u w) ∙ sym h

pub values_somewhere : (C : List (List LitOf)) (x : Assignment) → ((f : Option Fate) → ValuesFate C x f → ⊥) → ⊥
values_somewhere C x k = elim (some_unsatisfied x C) [ inl s ↦ k _ (inl (s, refl)) | inr (n, u) ↦ k _ (inr (n, u, refl)) ]
