-- Two watched literals with blockers: each step of propagation keeps a clause watched.
use Rattle.std.proofs.Common.{◌≡◌, ◌≢◌, List, [], ◌∷◌, ◌++◌, sym, ◌∙◌, ap, subst, inl, inr, ◌⊎◌}
use Rattle.std.specs.Prelude.{Contains, Option, Some}
use Rattle.std.proofs.lemmas.List.Elements.{Contains-push_cases}
use Rattle.cnf_form.specs.Cnf.{LitOf, negate}
use Rattle.cnf_form.proofs.Literals.{lit_cases, negate-negate}
use Rattle.cnf_form.proofs.Members.{Contains-empty, Contains-head, Contains-tail, Contains-cases}
use Rattle.unit_propagation.specs.declared.watch.Head.{Head}
use Rattle.unit_propagation.specs.Propagation.{IsConsistent, IsSettled, IsSatisfied}
use Rattle.unit_propagation.specs.Visit.{IsWatched, IsKept}
use Rattle.unit_propagation.specs.Watch.{Watches, IsStale}

-- a literal is on the trail or not
pub on_trail : (t : List LitOf) (l : LitOf) → Contains t l ⊎ (Contains t l → ⊥)
on_trail [] l = inr (Contains-empty l)
on_trail (m ∷ t) l =
    elim (lit_cases m l) [
      | inl e ↦ inl (subst (Contains (m ∷ t)) e (Contains-head m t))
      | inr d ↦ elim (on_trail t l) [ inl h ↦ inl (Contains-tail m l t h) | inr n ↦ inr (λ h. elim (Contains-cases m l t h) [ inl e ↦ d e | inr h ↦ n h ]) ]
    ]

pub settled_by_true : (t c : List LitOf) (l : LitOf) → IsConsistent t → Contains c l → Contains t l → IsSettled t c
settled_by_true t c l ok h on = record {
  not_falsified = λ f. ok.apart l on (f.each l h);
  closed = λ m k others. elim (lit_cases l m) [ inl e ↦ subst (Contains t) e on | inr d ↦ absurd (ok.apart l on (others.each l h d)) ];
}

pub settled_by_two : (t c : List LitOf) (u l : LitOf) → Contains c u → Contains c l → u ≢ l → (Contains t (negate u) → ⊥) → (Contains t (negate l) → ⊥) → IsSettled t c
settled_by_two t c u l hu hl d nu nl = record {
  not_falsified = λ f. nu (f.each u hu);
  closed = λ m k others. elim (lit_cases u m) [
    | inl e ↦ absurd (nl (others.each l hl (λ le. d (e ∙ sym le))))
    | inr ne ↦ absurd (nu (others.each u hu ne))
  ];
}

satisfied_grown : (t u c : List LitOf) → ((l : LitOf) → Contains t l → Contains u l) → IsSatisfied t c → IsSatisfied u c
satisfied_grown t u c grows s = record { lit = s.lit; contains = s.contains; on = grows s.lit s.on }

module _ (p t c : List LitOf) (u v : LitOf) (w : IsWatched p t c u v) where
  -- with nothing left to deal with the clause is settled
  pub watched_settled : IsConsistent t → ((l : LitOf) → Contains t l → Contains p l) → IsSettled t c
  watched_settled ok dealt =
      elim (on_trail t (negate u)) [
        | inl nu ↦ let h : IsSatisfied t c = w.left_kept (dealt (negate u) nu) in settled_by_true t c h.lit ok h.contains h.on
        | inr u_open ↦ elim (on_trail t (negate v)) [
          | inl nv ↦ let h : IsSatisfied t c = w.right_kept (dealt (negate v) nv) in settled_by_true t c h.lit ok h.contains h.on
          | inr v_open ↦ settled_by_two t c u v w.left_in w.right_in w.two u_open v_open
        ]
      ]

  pub watched_swap : IsWatched p t c v u
  watched_swap = record { left_in = w.right_in; right_in = w.left_in; two = λ e. w.two (sym e); left_kept = w.right_kept; right_kept = w.left_kept }

  -- dealing with a literal whose negation the clause does not watch
  pub watched_other : (l : LitOf) → u ≢ negate l → v ≢ negate l → IsWatched (p ++ l ∷ []) t c u v
  watched_other l nu nv = record {
    left_in = w.left_in;
    right_in = w.right_in;
    two = w.two;
    left_kept = λ h. elim (Contains-push_cases p l (negate u) h) [ inl h ↦ w.left_kept h | inr f ↦ absurd (nu (sym (negate-negate u) ∙ ap negate (sym f))) ];
    right_kept = λ h. elim (Contains-push_cases p l (negate v) h) [ inl h ↦ w.right_kept h | inr f ↦ absurd (nv (sym (negate-negate v) ∙ ap negate (sym f))) ];
  }

  -- The left watch moves to m, which is not false. The new list q of what was dealt with has at most the left watch's negation more.
  pub watched_moved : (q : List LitOf) (m : LitOf) → ((x : LitOf) → Contains q x → Contains p x ⊎ (x ≡ negate u)) → Contains c m → m ≢ v → (Contains q (negate m) → ⊥) → IsWatched q t c v m
  watched_moved q m more h ne m_open = record {
    left_in = w.right_in;
    right_in = h;
    two = λ e. ne (sym e);
    left_kept = λ k. elim (more (negate v) k) [ inl k ↦ w.right_kept k | inr e ↦ absurd (w.two (sym (negate-negate u) ∙ ap negate (sym e) ∙ negate-negate v)) ];
    right_kept = λ k. absurd (m_open k);
  }

-- the same of the clause of a head
module _ (p t : List LitOf) (slot : Option (List LitOf)) (h : Head) (k : IsKept p t slot h) where
  pub kept_grown : (u : List LitOf) → ((l : LitOf) → Contains t l → Contains u l) → IsKept p u slot h
  kept_grown u grows = record {
    watched = λ d. let w = k.watched d in let x = w.2 in (
      w.0,
      w.1,
      record {
        left_in = x.left_in;
        right_in = x.right_in;
        two = x.two;
        left_kept = λ q. satisfied_grown t u w.0 grows (x.left_kept q);
        right_kept = λ q. satisfied_grown t u w.0 grows (x.right_kept q);
      },
    );
    loose = λ e c q. satisfied_grown t u c grows (k.loose e c q);
  }

  -- what was dealt with may be less
  pub kept_less : (q : List LitOf) → ((l : LitOf) → Contains q l → Contains p l) → IsKept q t slot h
  kept_less q less = record {
    watched = λ d. let w = k.watched d in let x = w.2 in (
      w.0,
      w.1,
      record {
        left_in = x.left_in;
        right_in = x.right_in;
        two = x.two;
        left_kept = λ i. x.left_kept (less (negate h.left) i);
        right_kept = λ i. x.right_kept (less (negate h.right) i);
      },
    );
    loose = k.loose;
  }

  -- a satisfied clause is kept, whatever is dealt with
  pub kept_satisfied : (q u : List LitOf) → ((c : List LitOf) → slot ≡ Some c → IsSatisfied u c) → IsKept q u slot h
  kept_satisfied q u s = record {
    watched = λ d. let w = k.watched d in let x = w.2 in (w.0, w.1, record { left_in = x.left_in; right_in = x.right_in; two = x.two; left_kept = λ _. s w.0 w.1; right_kept = λ _. s w.0 w.1 });
    loose = λ _ c q. s c q;
  }

  pub kept_stale : (f : LitOf) → IsStale h f → IsKept (p ++ negate f ∷ []) t slot h
  kept_stale f st = record {
    watched = λ d. let w = k.watched d in
        elim st [
          | inl e ↦ absurd (d e)
          | inr n ↦ (w.0, w.1, watched_other p t w.0 h.left h.right w.2 (negate f) (λ e. n.0 (e ∙ negate-negate f)) (λ e. n.1 (e ∙ negate-negate f)))
        ];
    loose = k.loose;
  }

  -- the other watch is in the clause, and is another literal
  pub other_in : (c : List LitOf) (f other : LitOf) → h.left ≢ h.right → Watches h f other → slot ≡ Some c → Contains c other × (other ≢ f)
  other_in c f other d at e =
      let w = k.watched d in
      let x = w.2 in
      let same : w.0 ≡ c = cc in
      elim at [
        | inl a ↦ (subst (λ z. Contains z other) same (subst (Contains w.0) a.1 x.right_in), λ g. d (a.0 ∙ sym g ∙ sym a.1))
        | inr a ↦ (subst (λ z. Contains z other) same (subst (Contains w.0) a.1 x.left_in), λ g. d (a.1 ∙ g ∙ sym a.0))
      ]

  pub kept_moved : (q c : List LitOf) (f other m : LitOf) (n : Head) → h.left ≢ h.right → Watches h f other → slot ≡ Some c → ((x : LitOf) → Contains q x → Contains p x ⊎ (x ≡ negate f))
      → Contains c m → m ≢ other → (Contains q (negate m) → ⊥) → n.left ≡ other → n.right ≡ m → IsKept q t slot n
  kept_moved q c f other m n d at e more in_clause ne m_open nl nr =
      let w = k.watched d in
      let same : w.0 ≡ c = cc in
      let x : IsWatched p t c h.left h.right = subst (λ z. IsWatched p t z h.left h.right) same w.2 in
      let moved : IsWatched q t c other m = elim at [
        | inl a ↦ subst (λ z. IsWatched q t c z m) a.1 (watched_moved p t c h.left h.right x q m (λ y i. elim (more y i) [ inl i ↦ inl i | inr g ↦ inr (g ∙ ap negate (sym a.0)) ]) in_clause (λ g. ne (g ∙ a.1)) m_open)
        | inr a ↦ subst (λ z. IsWatched q t c z m) a.1 (watched_moved p t c h.right h.left (watched_swap p t c h.left h.right x) q m (λ y i. elim (more y i) [ inl i ↦ inl i | inr g ↦ inr (g ∙ ap negate (sym a.0)) ]) in_clause (λ g. ne (g ∙ a.1)) m_open)
      ] in
      record {
        watched = λ _. (c, e, rw (nl, nr) moved);
        loose = λ g c' q'. absurd (moved.two (sym nl ∙ g ∙ nr));
      }

  -- with nothing left to deal with the clause is settled
  pub kept_settled : (c : List LitOf) → slot ≡ Some c → IsConsistent t → ((l : LitOf) → Contains t l → Contains p l) → IsSettled t c
  kept_settled c e ok dealt =
      elim (lit_cases h.left h.right) [
        | inl g ↦ let s = k.loose g c e in settled_by_true t c s.lit ok s.contains s.on
        | inr d ↦ let w = k.watched d in
            let same : w.0 ≡ c = cc in
            watched_settled p t c h.left h.right (subst (λ z. IsWatched p t z h.left h.right) same w.2) ok dealt
      ]
