-- Entries that come into lists and go.
use Rattle.std.proofs.Common.{◌≡◌, ◌⊎◌, ℕ, ◌<◌, Bool, true, false, cond, List, [], ◌∷◌, ◌++◌, length, set, refl, sym, ◌∙◌, ap, subst, inl, inr, arith}
use Rattle.std.specs.Prelude.{Contains, Option, filter, is_some}
use Rattle.std.proofs.lemmas.Bool.{cases_lt, both_ways}
use Rattle.std.proofs.lemmas.List.{set_past, length-set}
use Rattle.std.proofs.lemmas.List.Elements.{Contains-append_left, Contains-push, Contains-push_cases}
use Rattle.cnf_form.specs.Cnf.{LitOf, index_of}
use Rattle.cnf_form.proofs.Literals.{lit_cases}
use Rattle.cnf_form.proofs.Members.{Contains-empty, Contains-head, Contains-tail, Contains-cases}
use Rattle.unit_propagation.specs.declared.watch.Watch.{Watch}
use Rattle.unit_propagation.specs.Propagator.{slot_at}
use Rattle.unit_propagation.specs.Watch.{row, Enters, Sweeps}
use Rattle.unit_propagation.proofs.Rows.{row_set_same, row_set_other}

-- a push to the list of l
module _ (rows : List (List Watch)) (l : LitOf) (w : Watch) where
  abbrev pushed : List (List Watch)
  pushed = set rows (index_of l) (row rows l ++ w ∷ [])

  pub push_keeps : (u : LitOf) (x : Watch) → Contains (row rows u) x → Contains (row pushed u) x
  push_keeps u x h =
      elim (lit_cases u l) [
        | inl e ↦ elim (cases_lt (index_of l) (length rows)) [
          | inl i ↦ subst (λ z. Contains z x) (sym (ap (row pushed) e ∙ row_set_same rows l _ i)) (Contains-append_left (row rows l) (w ∷ []) x (subst (λ z. Contains (row rows z) x) e h))
          | inr i ↦ subst (λ z. Contains (row z u) x) (sym (set_past rows (index_of l) _ i)) h
        ]
        | inr d ↦ subst (λ z. Contains z x) (sym (row_set_other rows l u _ d)) h
      ]

  pub push_only : (u : LitOf) (x : Watch) → Contains (row pushed u) x → Contains (row rows u) x ⊎ ((u ≡ l) × (w ≡ x))
  push_only u x h =
      elim (lit_cases u l) [
        | inl e ↦ elim (cases_lt (index_of l) (length rows)) [
          | inl i ↦ elim (Contains-push_cases (row rows l) w x (subst (λ z. Contains z x) (ap (row pushed) e ∙ row_set_same rows l _ i) h)) [
            | inl k ↦ inl (subst (λ z. Contains (row rows z) x) (sym e) k)
            | inr g ↦ inr (e, g)
          ]
          | inr i ↦ inl (subst (λ z. Contains (row z u) x) (set_past rows (index_of l) _ i) h)
        ]
        | inr d ↦ inl (subst (λ z. Contains z x) (row_set_other rows l u _ d) h)
      ]

  pub push_new : index_of l < length rows → Contains (row pushed l) w
  push_new i = subst (λ z. Contains z w) (sym (row_set_same rows l _ i)) (Contains-push (row rows l) w)

pub enters_none : (rows : List (List Watch)) (k : ℕ) (left right : LitOf) → Enters rows rows k left right
enters_none rows k left right = record { keeps = λ u w h. h; only = λ u w h. inl h }

-- two pushes, of which the second may have failed
pub enters_left : (rows rows' : List (List Watch)) (k : ℕ) (left right : LitOf) → rows' ≡ set rows (index_of left) (row rows left ++ (record { clause = k; blocker = right }) ∷ []) → Enters rows rows' k left right
enters_left rows rows' k left right e = subst (λ z. Enters rows z k left right) (sym e) (record {
  keeps = push_keeps rows left (record { clause = k; blocker = right });
  only = λ u w h. elim (push_only rows left (record { clause = k; blocker = right }) u w h) [
    | inl i ↦ inl i
    | inr g ↦ inr (ap (λ (z : Watch). z.clause) (sym g.1), inl (g.0, ap (λ (z : Watch). z.blocker) (sym g.1)))
  ];
})

pub enters_both : (rows rows' rows'' : List (List Watch)) (k : ℕ) (left right : LitOf) → Enters rows rows' k left right
    → rows'' ≡ set rows' (index_of right) (row rows' right ++ (record { clause = k; blocker = left }) ∷ []) → Enters rows rows'' k left right
enters_both rows rows' rows'' k left right a e = subst (λ z. Enters rows z k left right) (sym e) (record {
  keeps = λ u w h. push_keeps rows' right (record { clause = k; blocker = left }) u w (a.keeps u w h);
  only = λ u w h. elim (push_only rows' right (record { clause = k; blocker = left }) u w h) [
    | inl i ↦ a.only u w i
    | inr g ↦ inr (ap (λ (z : Watch). z.clause) (sym g.1), inr (g.0, ap (λ (z : Watch). z.blocker) (sym g.1)))
  ];
})

-- a list without the entries that fail a test
module _ (test : Watch → Bool) (w : Watch) where
  filter_only : (xs : List Watch) → Contains (filter test xs) w → Contains xs w
  filter_only [] h = absurd (Contains-empty w h)
  filter_only (x ∷ xs) h = go (test x) h (filter_only xs)
    where
      go : (b : Bool) → Contains (cond b (x ∷ filter test xs) (filter test xs)) w → (Contains (filter test xs) w → Contains xs w) → Contains (x ∷ xs) w
      go true h rest = elim (Contains-cases x w (filter test xs) h) [
        | inl g ↦ subst (Contains (x ∷ xs)) g (Contains-head x xs)
        | inr i ↦ Contains-tail x w xs (rest i)
      ]
      go false h rest = Contains-tail x w xs (rest h)

  filter_keeps : (xs : List Watch) → Contains xs w → test w ≡ true → Contains (filter test xs) w
  filter_keeps [] h e = absurd (Contains-empty w h)
  filter_keeps (x ∷ xs) h e = go (test x) refl (λ i. filter_keeps xs i e)
    where
      go : (b : Bool) → test x ≡ b → (Contains xs w → Contains (filter test xs) w) → Contains (cond b (x ∷ filter test xs) (filter test xs)) w
      go true f rest = elim (Contains-cases x w xs h) [
        | inl g ↦ subst (Contains (x ∷ filter test xs)) g (Contains-head x (filter test xs))
        | inr i ↦ Contains-tail x w (filter test xs) (rest i)
      ]
      go false f rest = elim (Contains-cases x w xs h) [ inl g ↦ absurd (both_ways _ f (ap test g ∙ e)) | inr i ↦ rest i ]

-- a list without the entries of clauses that were removed
module _ (slots : List (Option (List LitOf))) (rows : List (List Watch)) (l : LitOf) where
  abbrev is_there : Watch → Bool
  is_there w = is_some (slot_at slots w.clause)

  abbrev swept : List (List Watch)
  swept = set rows (index_of l) (filter is_there (row rows l))

  pub sweeps_one : Sweeps slots rows swept
  sweeps_one = record {
    keeps = λ u w c h e. elim (lit_cases u l) [
      | inl g ↦ elim (cases_lt (index_of l) (length rows)) [
        | inl i ↦ subst (λ z. Contains z w) (sym (ap (row swept) g ∙ row_set_same rows l _ i)) (filter_keeps is_there w (row rows l) (subst (λ z. Contains (row rows z) w) g h) (ap is_some e))
        | inr i ↦ subst (λ z. Contains (row z u) w) (sym (set_past rows (index_of l) _ i)) h
      ]
      | inr d ↦ subst (λ z. Contains z w) (sym (row_set_other rows l u _ d)) h
    ];
    only = λ u w h. elim (lit_cases u l) [
      | inl g ↦ elim (cases_lt (index_of l) (length rows)) [
        | inl i ↦ subst (λ z. Contains (row rows z) w) (sym g) (filter_only is_there w (row rows l) (subst (λ z. Contains z w) (ap (row swept) g ∙ row_set_same rows l _ i) h))
        | inr i ↦ subst (λ z. Contains (row z u) w) (set_past rows (index_of l) _ i) h
      ]
      | inr d ↦ subst (λ z. Contains z w) (row_set_other rows l u _ d) h
    ];
  }

pub sweeps_none : (slots : List (Option (List LitOf))) (rows : List (List Watch)) → Sweeps slots rows rows
sweeps_none slots rows = record { keeps = λ u w c h e. h; only = λ u w h. h }

pub sweeps_both : (slots : List (Option (List LitOf))) (rows rows' rows'' : List (List Watch)) → Sweeps slots rows rows' → Sweeps slots rows' rows'' → Sweeps slots rows rows''
sweeps_both slots rows rows' rows'' a b = record { keeps = λ u w c h e. b.keeps u w c (a.keeps u w c h e) e; only = λ u w h. a.only u w (b.only u w h) }

-- the two new entries stand there
pub entered_both : (rows rows' rows'' : List (List Watch)) (k : ℕ) (left right : LitOf) → index_of left < length rows → index_of right < length rows
    → rows' ≡ set rows (index_of left) (row rows left ++ (record { clause = k; blocker = right }) ∷ []) → rows'' ≡ set rows' (index_of right) (row rows' right ++ (record { clause = k; blocker = left }) ∷ [])
    → Contains (row rows'' left) (record { clause = k; blocker = right }) × Contains (row rows'' right) (record { clause = k; blocker = left })
entered_both rows rows' rows'' k left right a b e f =
    let wide : index_of right < length rows' = omega (arith, b, ap length e, length-set rows (index_of left) (row rows left ++ (record { clause = k; blocker = right }) ∷ [])) in
    let first : Contains (row rows' left) (record { clause = k; blocker = right }) = subst (λ z. Contains (row z left) (record { clause = k; blocker = right })) (sym e) (push_new rows left (record { clause = k; blocker = right }) a) in (
      subst (λ z. Contains (row z left) (record { clause = k; blocker = right })) (sym f) (push_keeps rows' right (record { clause = k; blocker = left }) left (record { clause = k; blocker = right }) first),
      subst (λ z. Contains (row z right) (record { clause = k; blocker = left })) (sym f) (push_new rows' right (record { clause = k; blocker = left }) wide),
    )
