-- Fates: one, none missing, and for good.
use Rattle.std.proofs.Common.{◌≡◌, ◌≢◌, ℕ, Bool, false, List, [], ◌∷◌, ◌++◌, Some, None, refl, sym, ap, ◌∙◌, subst, inl, inr, ◌⊎◌}
use Rattle.std.specs.Prelude.{Option}
use Rattle.cnf_form.specs.Cnf.{LitOf, FormulaOf, Assignment, IsAdmitted}
use Rattle.cert_stream.specs.Stream.{sayings}
use Rattle.cert_stream.specs.Telling.{Saying, IsClause, IsDelete, IsValue, IsValuesEnd, IsUnknown, IsFault}
use Rattle.cert_stream.proofs.GoingOn.{sayings_more}
use Rattle.sby_terms.specs.declared.names.Answer.TheVariants.{Sat}
use Rattle.cert_judge.specs.Drup.{BytesFate, StreamFate, SayingsFate, value_lits, values_named, values_said}
use Rattle.cert_judge.specs.Fate.{Fate, Found}
use Rattle.cert_judge.specs.Values.{named, named_from, unnamed}
use Rattle.cert_judge.proofs.Deletions.{Clauses, Alike, alike_itself, alike_admitted, admitted_alike, alike_more, alike_deleted, some_deletion}
use Rattle.cert_judge.proofs.DrupComing.{refuted, satisfied}
use Rattle.cert_judge.proofs.KindLaws.{Laws}
use Rattle.cert_judge.proofs.Valuing.{values_once, values_somewhere}

-- what is said later changes no fate
pub comes_more : (C F : Clauses) (x : Assignment) (ss more : List Saying) (fate : Fate) → SayingsFate C F x ss (Some fate) → SayingsFate C F x (ss ++ more) (Some fate)
comes_more C F x [] more fate h = cc
comes_more C F x (IsClause c place ∷ ss) more fate (inl h) = inl h
comes_more C F x (IsClause c place ∷ ss) more fate (inr (inl (a, n, h))) = inr (inl (a, n, comes_more C (F ++ c ∷ []) x ss more fate h))
comes_more C F x (IsClause c place ∷ ss) more fate (inr (inr h)) = inr (inr h)
comes_more C F x (IsDelete c ∷ ss) more fate (G, d, h) = (G, d, comes_more C G x ss more fate h)
comes_more C F x (IsValue c ∷ ss) more fate h = comes_more C F (named x c) ss more fate h
comes_more C F x (IsValuesEnd ∷ ss) more fate h = h
comes_more C F x (IsUnknown ∷ ss) more fate h = h
comes_more C F x (IsFault f ∷ ss) more fate h = h

-- from the same clauses, whichever copies were deleted
module _ (C : Clauses) where
  comes_alike : (F G : Clauses) (v : Assignment) (ss : List Saying) (x y : Option Fate) → Alike F G → SayingsFate C F v ss x → SayingsFate C G v ss y → x ≡ y
  comes_alike F G v [] x y w h k = h ∙ sym k
  comes_alike F G v (IsClause c place ∷ ss) x y w (inl (a, e, h)) (inl (b, f, k)) = h ∙ sym k
  comes_alike F G v (IsClause c place ∷ ss) x y w (inl (a, e, h)) (inr (inl (b, f, k))) = absurd (f e)
  comes_alike F G v (IsClause c place ∷ ss) x y w (inl (a, e, h)) (inr (inr (b, k))) = absurd (b (alike_admitted F G c w a))
  comes_alike F G v (IsClause c place ∷ ss) x y w (inr (inl (a, e, h))) (inl (b, f, k)) = absurd (e f)
  comes_alike F G v (IsClause c place ∷ ss) x y w (inr (inl (a, e, h))) (inr (inl (b, f, k))) =
      comes_alike (F ++ c ∷ []) (G ++ c ∷ []) v ss x y (alike_more F G c w) h k
  comes_alike F G v (IsClause c place ∷ ss) x y w (inr (inl (a, e, h))) (inr (inr (b, k))) = absurd (b (alike_admitted F G c w a))
  comes_alike F G v (IsClause c place ∷ ss) x y w (inr (inr (a, h))) (inl (b, f, k)) = absurd (a (admitted_alike F G c w b))
  comes_alike F G v (IsClause c place ∷ ss) x y w (inr (inr (a, h))) (inr (inl (b, f, k))) = absurd (a (admitted_alike F G c w b))
  comes_alike F G v (IsClause c place ∷ ss) x y w (inr (inr (a, h))) (inr (inr (b, k))) = h ∙ sym k
  comes_alike F G v (IsDelete c ∷ ss) x y w (H, d, h) (K, e, k) = comes_alike H K v ss x y (alike_deleted F G H K c w d e) h k
  comes_alike F G v (IsValue c ∷ ss) x y w h k = comes_alike F G (named v c) ss x y w h k
  comes_alike F G v (IsValuesEnd ∷ ss) x y w h k = values_once C v x y h k
  comes_alike F G v (IsUnknown ∷ ss) x y w h k = h ∙ sym k
  comes_alike F G v (IsFault f ∷ ss) x y w h k = h ∙ sym k

pub comes_once : (f : FormulaOf) (ss : List Saying) (x y : Option Fate) → StreamFate f ss x → StreamFate f ss y → x ≡ y
comes_once f ss x y h k = comes_alike f.clauses f.clauses f.clauses unnamed ss x y (alike_itself f.clauses) h k

empty_or_not : (c : List LitOf) → (c ≡ []) ⊎ (c ≢ [])
empty_or_not [] = inl refl
empty_or_not (l ∷ c) = inr (λ e. cc)

pub comes_somewhere : (C F : Clauses) (v : Assignment) (ss : List Saying) → ((x : Option Fate) → SayingsFate C F v ss x → ⊥) → ⊥
comes_somewhere C F v [] k = k None refl
comes_somewhere C F v (IsClause c place ∷ ss) k =
    let unadmitted : IsAdmitted F c → ⊥ = λ a. elim (empty_or_not c) [
      | inl e ↦ k _ (inl (a, e, refl))
      | inr n ↦ comes_somewhere C (F ++ c ∷ []) v ss (λ x h. k x (inr (inl (a, n, h))))
    ] in
    k _ (inr (inr (unadmitted, refl)))
comes_somewhere C F v (IsDelete c ∷ ss) k = some_deletion F c (λ G d. comes_somewhere C G v ss (λ x h. k x (G, d, h)))
comes_somewhere C F v (IsValue c ∷ ss) k = comes_somewhere C F (named v c) ss k
comes_somewhere C F v (IsValuesEnd ∷ ss) k = values_somewhere C v k
comes_somewhere C F v (IsUnknown ∷ ss) k = k _ refl
comes_somewhere C F v (IsFault f ∷ ss) k = k _ refl

-- values end with their 0, whatever is said then
lits_once : (C F : List (List LitOf)) (x : Assignment) (ss more : List Saying) → SayingsFate C F x ss (Some (Found Sat)) → value_lits (ss ++ more) ≡ value_lits ss
lits_once C F x [] more h = absurd (let e = h in cc)
lits_once C F x (IsClause c place ∷ ss) more (inl (a, n, e)) = absurd (let q = e in cc)
lits_once C F x (IsClause c place ∷ ss) more (inr (inl (a, n, h))) = lits_once C (F ++ c ∷ []) x ss more h
lits_once C F x (IsClause c place ∷ ss) more (inr (inr (a, e))) = absurd (let q = e in cc)
lits_once C F x (IsDelete c ∷ ss) more (G, d, h) = lits_once C G x ss more h
lits_once C F x (IsValue l ∷ ss) more h = ap (λ z. l ∷ z) (lits_once C F (named x l) ss more h)
lits_once C F x (IsValuesEnd ∷ ss) more h = refl
lits_once C F x (IsUnknown ∷ ss) more h = absurd (let e = h in cc)
lits_once C F x (IsFault f ∷ ss) more h = absurd (let e = h in cc)

module _ (f : FormulaOf) where
  abbrev said : Bool → List ℕ → List Saying
  said ended bytes = sayings f.vars ended bytes

  comes_on : (bytes : List ℕ) (more whole : List Saying) (x : Fate) → whole ≡ said false bytes ++ more → StreamFate f (said false bytes) (Some x) → StreamFate f whole (Some x)
  comes_on bytes more whole x e h = subst (λ (z : List Saying). StreamFate f z (Some x)) (sym e) (comes_more f.clauses f.clauses unnamed (said false bytes) more x h)

  named_on : (bytes : List ℕ) (more whole : List Saying) → whole ≡ said false bytes ++ more → StreamFate f (said false bytes) (Some (Found Sat)) → values_said whole ≡ values_said (said false bytes)
  named_on bytes more whole e h = ap values_said e ∙ ap (named_from unnamed) (lits_once f.clauses f.clauses unnamed (said false bytes) more h)

  pub drup_laws : Laws f (BytesFate f) (values_named f.vars)
  drup_laws = record {
    on = λ ended bytes rest x h. let w = sayings_more f.vars ended bytes rest in comes_on bytes w.0 (said ended (bytes ++ rest)) x w.1 h;
    once = λ ended bytes x y h k. comes_once f (said ended bytes) x y h k;
    somewhere = λ ended bytes k. comes_somewhere f.clauses f.clauses unnamed (said ended bytes) k;
    refuted = λ ended bytes h. refuted f.clauses f.clauses unnamed (said ended bytes) h;
    satisfied = λ ended bytes h. satisfied f.clauses f.clauses unnamed (said ended bytes) h;
    named = λ ended bytes rest h. let w = sayings_more f.vars ended bytes rest in named_on bytes w.0 (said ended (bytes ++ rest)) w.1 h;
  }
