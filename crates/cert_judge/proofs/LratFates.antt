-- Fates: one, none missing, and for good.
use Rattle.std.proofs.Common.{◌≡◌, ◌≢◌, ℕ, ◌<◌, ◌≤◌, Bool, false, leb, List, [], ◌∷◌, ◌++◌, Some, None, refl, sym, ap, ◌∙◌, subst, inl, inr, arith, ◌⊎◌}
use Rattle.std.proofs.lemmas.Bool.{cases_Bool, leb-true, leb-false}
use Rattle.std.specs.Prelude.{Option}
use Rattle.cnf_form.specs.Cnf.{LitOf, FormulaOf, Assignment}
use Rattle.cert_stream.specs.LratLines.{sayings}
use Rattle.cert_stream.specs.LratTelling.{LratSaying, IsClause, IsDelete, IsValue, IsValuesEnd, IsUnknown, IsFault}
use Rattle.cert_stream.proofs.LratGoingOn.{sayings_more}
use Rattle.sby_terms.specs.declared.names.Answer.TheVariants.{Sat}
use Rattle.lrat_check.specs.Hints.{IsHinted, Live}
use Rattle.cert_stream.specs.declared.lrat.mode.Hint.{Hint}
use Rattle.cert_judge.specs.Fate.{Fate, Found}
use Rattle.cert_judge.specs.Lrat.{BytesFate, ByHints, StreamFate, SayingsFate, Held, HintsFate, added, deleted, first_bad, held_first, ids_of, value_lits, values_named, values_said}
use Rattle.cert_judge.specs.Values.{named, named_from, unnamed}
use Rattle.cert_judge.proofs.KindLaws.{Laws}
use Rattle.cert_judge.proofs.LratComing.{by_hints, refuted_first, satisfied}
use Rattle.cert_judge.proofs.Valuing.{values_once, values_somewhere}

-- what is said later changes no fate
pub hints_more : (o : Option Hint) (A B : Type 0) (fate : Option Fate) → (A → B) → ByHints o A fate → ByHints o B fate
hints_more None A B fate g h = g h
hints_more (Some i) A B fate g h = h

pub tried_more : (live : Live) (lits : List LitOf) (hints : List Hint) (place : ℕ) (A B : Type 0) (fate : Option Fate) → (A → B) → HintsFate live lits hints place A fate → HintsFate live lits hints place B fate
tried_more live lits hints place A B fate g (inl h) = inl h
tried_more live lits hints place A B fate g (inr (inl (a, n, h))) = inr (inl (a, n, g h))
tried_more live lits hints place A B fate g (inr (inr h)) = inr (inr h)

pub comes_more : (C : List (List LitOf)) (F : Held) (x : Assignment) (ss more : List LratSaying) (fate : Fate) → SayingsFate C F x ss (Some fate) → SayingsFate C F x (ss ++ more) (Some fate)
comes_more C F x [] more fate h = cc
comes_more C F x (IsClause id c hints place ∷ ss) more fate (inl h) = inl h
comes_more C F x (IsClause id c hints place ∷ ss) more fate (inr (l, b)) =
    inr (l, hints_more (first_bad F.live hints) _ _ (Some fate) (tried_more F.live c hints place _ _ (Some fate) (λ h. comes_more C (added F id c) x ss more fate h)) b)
comes_more C F x (IsDelete ids ∷ ss) more fate h = comes_more C (deleted F ids) x ss more fate h
comes_more C F x (IsValue c ∷ ss) more fate h = comes_more C F (named x c) ss more fate h
comes_more C F x (IsValuesEnd ∷ ss) more fate h = h
comes_more C F x (IsUnknown ∷ ss) more fate h = h
comes_more C F x (IsFault f ∷ ss) more fate h = h

-- one fate
hints_once : (o : Option Hint) (A B : Type 0) (x y : Option Fate) → (A → B → x ≡ y) → ByHints o A x → ByHints o B y → x ≡ y
hints_once None A B x y g h k = g h k
hints_once (Some i) A B x y g h k = h ∙ sym k

tried_once : (live : Live) (lits : List LitOf) (hints : List Hint) (place : ℕ) (A B : Type 0) (x y : Option Fate) → (A → B → x ≡ y) → HintsFate live lits hints place A x → HintsFate live lits hints place B y → x ≡ y
tried_once live lits hints place A B x y g (inl (a, e, h)) (inl (b, f, k)) = h ∙ sym k
tried_once live lits hints place A B x y g (inl (a, e, h)) (inr (inl (b, f, k))) = absurd (f e)
tried_once live lits hints place A B x y g (inl (a, e, h)) (inr (inr (b, k))) = absurd (b a)
tried_once live lits hints place A B x y g (inr (inl (a, e, h))) (inl (b, f, k)) = absurd (e f)
tried_once live lits hints place A B x y g (inr (inl (a, e, h))) (inr (inl (b, f, k))) = g h k
tried_once live lits hints place A B x y g (inr (inl (a, e, h))) (inr (inr (b, k))) = absurd (b a)
tried_once live lits hints place A B x y g (inr (inr (a, h))) (inl (b, f, k)) = absurd (a b)
tried_once live lits hints place A B x y g (inr (inr (a, h))) (inr (inl (b, f, k))) = absurd (a b)
tried_once live lits hints place A B x y g (inr (inr (a, h))) (inr (inr (b, k))) = h ∙ sym k

comes_one : (C : List (List LitOf)) (F : Held) (v : Assignment) (ss : List LratSaying) (x y : Option Fate) → SayingsFate C F v ss x → SayingsFate C F v ss y → x ≡ y
comes_one C F v [] x y h k = h ∙ sym k
comes_one C F v (IsClause id c hints place ∷ ss) x y (inl (l, h)) (inl (m, k)) = h ∙ sym k
comes_one C F v (IsClause id c hints place ∷ ss) x y (inl (l, h)) (inr (m, k)) = absurd (omega (arith, l, m))
comes_one C F v (IsClause id c hints place ∷ ss) x y (inr (l, h)) (inl (m, k)) = absurd (omega (arith, l, m))
comes_one C F v (IsClause id c hints place ∷ ss) x y (inr (l, h)) (inr (m, k)) =
    hints_once (first_bad F.live hints) _ _ x y (tried_once F.live c hints place _ _ x y (λ a b. comes_one C (added F id c) v ss x y a b)) h k
comes_one C F v (IsDelete ids ∷ ss) x y h k = comes_one C (deleted F ids) v ss x y h k
comes_one C F v (IsValue c ∷ ss) x y h k = comes_one C F (named v c) ss x y h k
comes_one C F v (IsValuesEnd ∷ ss) x y h k = values_once C v x y h k
comes_one C F v (IsUnknown ∷ ss) x y h k = h ∙ sym k
comes_one C F v (IsFault f ∷ ss) x y h k = h ∙ sym k

pub comes_once : (f : FormulaOf) (ss : List LratSaying) (x y : Option Fate) → StreamFate f ss x → StreamFate f ss y → x ≡ y
comes_once f ss x y h k = comes_one f.clauses (held_first f.clauses) unnamed ss x y h k

-- some fate
bounds : (n most : ℕ) → (n ≤ most) ⊎ (most < n)
bounds n most = elim (cases_Bool (leb n most)) [ inl t ↦ inl (leb-true n most t) | inr f ↦ inr (leb-false n most f) ]

empty_or_not : (c : List LitOf) → (c ≡ []) ⊎ (c ≢ [])
empty_or_not [] = inl refl
empty_or_not (l ∷ c) = inr (λ e. cc)

hints_somewhere : (o : Option Hint) (A : Option Fate → Type 0) → (((x : Option Fate) → A x → ⊥) → ⊥) → ((x : Option Fate) → ByHints o (A x) x → ⊥) → ⊥
hints_somewhere None A g k = g k
hints_somewhere (Some i) A g k = k _ refl

tried_somewhere : (live : Live) (c : List LitOf) (hints : List Hint) (place : ℕ) (A : Option Fate → Type 0) → (((x : Option Fate) → A x → ⊥) → ⊥) → ((x : Option Fate) → HintsFate live c hints place (A x) x → ⊥) → ⊥
tried_somewhere live c hints place A g k =
    let unhinted : IsHinted live c (ids_of hints) → ⊥ = λ a. elim (empty_or_not c) [
      | inl e ↦ k _ (inl (a, e, refl))
      | inr n ↦ g (λ x h. k x (inr (inl (a, n, h))))
    ] in
    k _ (inr (inr (unhinted, refl)))

pub comes_somewhere : (C : List (List LitOf)) (F : Held) (v : Assignment) (ss : List LratSaying) → ((x : Option Fate) → SayingsFate C F v ss x → ⊥) → ⊥
comes_somewhere C F v [] k = k None refl
comes_somewhere C F v (IsClause id c hints place ∷ ss) k =
    elim (bounds id F.last) [
      | inl l ↦ k _ (inl (l, refl))
      | inr l ↦
          hints_somewhere (first_bad F.live hints) (λ x. HintsFate F.live c hints place (SayingsFate C (added F id c) v ss x) x)
          (tried_somewhere F.live c hints place (λ x. SayingsFate C (added F id c) v ss x) (comes_somewhere C (added F id c) v ss))
          (λ x h. k x (inr (l, h)))
    ]
comes_somewhere C F v (IsDelete ids ∷ ss) k = comes_somewhere C (deleted F ids) v ss k
comes_somewhere C F v (IsValue c ∷ ss) k = comes_somewhere C F (named v c) ss k
comes_somewhere C F v (IsValuesEnd ∷ ss) k = values_somewhere C v k
comes_somewhere C F v (IsUnknown ∷ ss) k = k _ refl
comes_somewhere C F v (IsFault f ∷ ss) k = k _ refl

-- values end with their 0, whatever is said then
lits_once : (C : List (List LitOf)) (F : Held) (x : Assignment) (ss more : List LratSaying) → SayingsFate C F x ss (Some (Found Sat)) → value_lits (ss ++ more) ≡ value_lits ss
lits_once C F x [] more h = absurd (let e = h in cc)
lits_once C F x (IsClause id c hints place ∷ ss) more (inl (l, e)) = absurd (let q = e in cc)
lits_once C F x (IsClause id c hints place ∷ ss) more (inr (l, b)) = tried (λ h. lits_once C (added F id c) x ss more h) (by_hints (first_bad F.live hints) _ (Found Sat) (λ h e. cc) b)
  where
    tried : (SayingsFate C (added F id c) x ss (Some (Found Sat)) → value_lits (ss ++ more) ≡ value_lits ss) → HintsFate F.live c hints place (SayingsFate C (added F id c) x ss (Some (Found Sat))) (Some (Found Sat)) → value_lits (ss ++ more) ≡ value_lits ss
    tried again (inl (a, n, e)) = cc
    tried again (inr (inl (a, n, h))) = again h
    tried again (inr (inr (n, e))) = cc
lits_once C F x (IsDelete ids ∷ ss) more h = lits_once C (deleted F ids) x ss more h
lits_once C F x (IsValue l ∷ ss) more h = ap (λ z. l ∷ z) (lits_once C F (named x l) ss more h)
lits_once C F x (IsValuesEnd ∷ ss) more h = refl
lits_once C F x (IsUnknown ∷ ss) more h = absurd (let e = h in cc)
lits_once C F x (IsFault f ∷ ss) more h = absurd (let e = h in cc)

module _ (f : FormulaOf) where
  abbrev said : Bool → List ℕ → List LratSaying
  said ended bytes = sayings f.vars ended bytes

  comes_on : (bytes : List ℕ) (more whole : List LratSaying) (x : Fate) → whole ≡ said false bytes ++ more → StreamFate f (said false bytes) (Some x) → StreamFate f whole (Some x)
  comes_on bytes more whole x e h = subst (λ (z : List LratSaying). StreamFate f z (Some x)) (sym e) (comes_more f.clauses (held_first f.clauses) unnamed (said false bytes) more x h)

  named_on : (bytes : List ℕ) (more whole : List LratSaying) → whole ≡ said false bytes ++ more → StreamFate f (said false bytes) (Some (Found Sat)) → values_said whole ≡ values_said (said false bytes)
  named_on bytes more whole e h = ap values_said e ∙ ap (named_from unnamed) (lits_once f.clauses (held_first f.clauses) unnamed (said false bytes) more h)

  pub lrat_laws : Laws f (BytesFate f) (values_named f.vars)
  lrat_laws = record {
    on = λ ended bytes rest x h. let w = sayings_more f.vars ended bytes rest in comes_on bytes w.0 (said ended (bytes ++ rest)) x w.1 h;
    once = λ ended bytes x y h k. comes_once f (said ended bytes) x y h k;
    somewhere = λ ended bytes k. comes_somewhere f.clauses (held_first f.clauses) unnamed (said ended bytes) k;
    refuted = λ ended bytes h. refuted_first f.clauses (said ended bytes) h;
    satisfied = λ ended bytes h. satisfied f.clauses (held_first f.clauses) unnamed (said ended bytes) h;
    named = λ ended bytes rest h. let w = sayings_more f.vars ended bytes rest in named_on bytes w.0 (said ended (bytes ++ rest)) w.1 h;
  }
