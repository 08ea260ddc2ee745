-- The fate of sayings, and what that is worth.
use Rattle.std.proofs.Common.{◌≡◌, ℕ, eqb, Option, None, refl, sym, ◌∙◌, List, [], ◌∷◌, ◌++◌, Some, inl, inr, subst}
use Rattle.std.specs.Prelude.{Contains}
use Rattle.std.proofs.lemmas.Bool.{cases_Bool}
use Rattle.cnf_form.specs.Cnf.{LitOf, Assignment, IsUnsatisfiable, Satisfies}
use Rattle.cnf_form.proofs.Rup.{Admitted-true, Satisfies-push}
use Rattle.cnf_form.proofs.Members.{Contains-empty}
use Rattle.std.proofs.lemmas.List.Elements.{Contains-append_left, Contains-push}
use Rattle.lrat_check.specs.Hints.{Live, put}
use Rattle.lrat_check.proofs.Admitting.{Hinted-admitted, LiveAmong, numbered_among}
use Rattle.cert_stream.specs.declared.lrat.mode.Hint.{Hint}
use Rattle.cert_judge.specs.declared.stream.CertKind.TheVariants.{BadHint}
use Rattle.cert_stream.specs.LratTelling.{LratSaying, IsClause, IsDelete, IsValue, IsValuesEnd, IsUnknown, IsFault}
use Rattle.sby_terms.specs.declared.names.Answer.TheVariants.{Sat, Unsat}
use Rattle.cert_judge.specs.Lrat.{ByHints, SayingsFate, Held, HintsFate, added, deleted, first_bad, held_first, ids_of, without}
use Rattle.cert_judge.specs.Fate.{Fate, Found, Bad}
use Rattle.cert_judge.specs.Values.{named, unnamed}

-- the fate of a clause that completes the certificate for Unsat, or after which it is completed
pub by_hints : (o : Option Hint) (rest : Type 0) (fate : Fate) → ((h : Hint) → Some fate ≡ Some (Bad BadHint h.place) → ⊥) → ByHints o rest (Some fate) → rest
by_hints None rest fate n h = h
by_hints (Some i) rest fate n h = absurd (n i h)

among_put : (live : Live) (G : List (List LitOf)) (id : ℕ) (c : List LitOf) → LiveAmong live G → LiveAmong (put live id (Some c)) (G ++ c ∷ [])
among_put live G id c h n d e =
    elim (cases_Bool (eqb id n)) [
      | inl t ↦ let k : put live id (Some c) n ≡ Some c = rw t refl in let m : Some c ≡ Some d = sym k ∙ e in let q : c ≡ d = cc in subst (Contains (G ++ c ∷ [])) q (Contains-push G c)
      | inr f ↦ let k : put live id (Some c) n ≡ live n = rw f refl in Contains-append_left G (c ∷ []) d (h n d (sym k ∙ e))
    ]

among_none : (live : Live) (G : List (List LitOf)) (id : ℕ) → LiveAmong live G → LiveAmong (put live id None) G
among_none live G id h n d e =
    elim (cases_Bool (eqb id n)) [
      | inl t ↦ let k : put live id None n ≡ None = rw t refl in absurd (let m = sym k ∙ e in cc)
      | inr f ↦ let k : put live id None n ≡ live n = rw f refl in h n d (sym k ∙ e)
    ]

among_without : (live : Live) (G : List (List LitOf)) (ids : List Hint) → LiveAmong live G → LiveAmong (without live ids) G
among_without live G [] h = h
among_without live G (i ∷ ids) h = among_without (put live i.id None) G ids (among_none live G i.id h)

refuted : (C : List (List LitOf)) (F : Held) (G : List (List LitOf)) (x : Assignment) (ss : List LratSaying) → LiveAmong F.live G → SayingsFate C F x ss (Some (Found Unsat)) → IsUnsatisfiable G
refuted C F G x [] w e y s = cc
refuted C F G x (IsClause id c hints place ∷ ss) w (inl (l, e)) y s = cc
refuted C F G x (IsClause id c hints place ∷ ss) w (inr (l, b)) y s =
    tried (λ h k. refuted C (added F id c) (G ++ c ∷ []) x ss (among_put F.live G id c w) h y k) (by_hints (first_bad F.live hints) _ (Found Unsat) (λ h e. cc) b)
  where
    tried : (SayingsFate C (added F id c) x ss (Some (Found Unsat)) → Satisfies y (G ++ c ∷ []) → ⊥) → HintsFate F.live c hints place (SayingsFate C (added F id c) x ss (Some (Found Unsat))) (Some (Found Unsat)) → ⊥
    tried again (inl (a, n, e)) = let t = Admitted-true y G c (Hinted-admitted F.live G c (ids_of hints) w a) s in Contains-empty t.0 (subst (λ z. Contains z t.0) n t.1)
    tried again (inr (inl (a, n, h))) = again h (Satisfies-push y G c s (Admitted-true y G c (Hinted-admitted F.live G c (ids_of hints) w a) s))
    tried again (inr (inr (n, e))) = cc
refuted C F G x (IsDelete ids ∷ ss) w h y s = refuted C (deleted F ids) G x ss (among_without F.live G ids w) h y s
refuted C F G x (IsValue c ∷ ss) w h y s = refuted C F G (named x c) ss w h y s
refuted C F G x (IsValuesEnd ∷ ss) w (inl (t, e)) y s = cc
refuted C F G x (IsValuesEnd ∷ ss) w (inr (n, u, e)) y s = cc
refuted C F G x (IsUnknown ∷ ss) w e y s = cc
refuted C F G x (IsFault f ∷ ss) w e y s = cc

-- values that satisfy a formula's clauses, where its certificate for Sat is complete
pub satisfied : (C : List (List LitOf)) (F : Held) (x : Assignment) (ss : List LratSaying) → SayingsFate C F x ss (Some (Found Sat)) → (y : Assignment) × Satisfies y C
satisfied C F x [] e = cc
satisfied C F x (IsClause id c hints place ∷ ss) (inl (l, e)) = cc
satisfied C F x (IsClause id c hints place ∷ ss) (inr (l, b)) = tried (λ h. satisfied C (added F id c) x ss h) (by_hints (first_bad F.live hints) _ (Found Sat) (λ h e. cc) b)
  where
    tried : (SayingsFate C (added F id c) x ss (Some (Found Sat)) → (y : Assignment) × Satisfies y C) → HintsFate F.live c hints place (SayingsFate C (added F id c) x ss (Some (Found Sat))) (Some (Found Sat)) → (y : Assignment) × Satisfies y C
    tried again (inl (a, n, e)) = cc
    tried again (inr (inl (a, n, h))) = again h
    tried again (inr (inr (n, e))) = cc
satisfied C F x (IsDelete ids ∷ ss) h = satisfied C (deleted F ids) x ss h
satisfied C F x (IsValue c ∷ ss) h = satisfied C F (named x c) ss h
satisfied C F x (IsValuesEnd ∷ ss) (inl (s, e)) = (x, s)
satisfied C F x (IsValuesEnd ∷ ss) (inr (n, u, e)) = cc
satisfied C F x (IsUnknown ∷ ss) e = cc
satisfied C F x (IsFault f ∷ ss) e = cc

pub refuted_first : (C : List (List LitOf)) (ss : List LratSaying) → SayingsFate C (held_first C) unnamed ss (Some (Found Unsat)) → IsUnsatisfiable C
refuted_first C ss h = refuted C (held_first C) C unnamed ss (numbered_among C) h
