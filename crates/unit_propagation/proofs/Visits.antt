-- One turn of the loop over the list of a false literal.
use Rattle.std.proofs.Common.{◌≡◌, ◌≢◌, ◌⊎◌, ℕ, ◌+◌, ◌<◌, ◌≤◌, true, List, [], ◌∷◌, ◌++◌, length, get_or, set, refl, sym, ◌∙◌, ap, subst, inl, inr, arith, append_assoc}
use Rattle.std.specs.Prelude.{Contains, Option, Some}
use Rattle.std.proofs.lemmas.Bool.{cases_eq, cases_lt}
use Rattle.std.proofs.lemmas.List.{get_or-set_same, get_or-set_other, length-set, append-nil, set_past}
use Rattle.std.proofs.lemmas.List.Elements.{All-set, All-get_or, Contains-append_left, Contains-push, Contains-push_cases}
use Rattle.cnf_form.specs.Cnf.{LitOf, negate, index_of, Closure, propagated}
use Rattle.cnf_form.proofs.Literals.{lit_cases}
use Rattle.unit_propagation.specs.declared.watch.Head.{Head}
use Rattle.unit_propagation.specs.declared.watch.Watch.{Watch}
use Rattle.unit_propagation.specs.Propagation.{IsUnassigned, IsFalsifiedBut, Propagates}
use Rattle.unit_propagation.specs.Propagator.{slot_at, clauses_of}
use Rattle.unit_propagation.specs.Watch.{row, Watches, IsStale}
use Rattle.unit_propagation.specs.Visit.{State, IsKept, EntryFits, IsListed, StandsIn, IsFiledAt, IsVisited, StandsFrom, IsPending}
use Rattle.unit_propagation.proofs.Rows.{row_set_same, row_set_other}
use Rattle.unit_propagation.proofs.Trails.{consistent_push}
use Rattle.unit_propagation.proofs.Watched.{kept_grown, kept_less, kept_moved, other_in}

-- entries that stand, where the one at k is written at kept, or is left
module _ (list : List Watch) (kept k j₀ : ℕ) (low : kept ≤ k) (within : k < length list) (here : (e : Watch) → (get_or list k e).clause ≡ j₀) where
  no_entry : Watch
  no_entry = get_or list k (record { clause = 0; blocker = record { var = 0; negated = true } })

  pub stands_kept : (w : Watch) (j : ℕ) → w.clause ≡ j₀ → StandsIn list kept k j → StandsIn (set list kept w) (kept + 1) (k + 1) j
  stands_kept w j e s =
      elim (cases_eq s.place k) [
        | inl g ↦ record {
          place = kept;
          where_it_is = inl (omega arith);
          within = omega (arith, length-set list kept w);
          clause = λ d. ap (λ (x : Watch). x.clause) (get_or-set_same list kept w d (omega arith)) ∙ e ∙ sym (here d) ∙ ap (λ z. (get_or list z d).clause) (sym g) ∙ s.clause d;
        }
        | inr ne ↦ let other : s.place ≢ kept = elim s.where_it_is [ inl h ↦ (λ g. omega (arith, h, g)) | inr h ↦ (λ g. omega (arith, h, g, ne)) ] in record {
          place = s.place;
          where_it_is = elim s.where_it_is [ inl h ↦ inl (omega (arith, h)) | inr h ↦ inr (omega (arith, h, ne)) ];
          within = omega (arith, length-set list kept w, s.within);
          clause = λ d. ap (λ (x : Watch). x.clause) (get_or-set_other list kept s.place w d other) ∙ s.clause d;
        }
      ]

  pub stands_left : (j : ℕ) → j ≢ j₀ → StandsIn list kept k j → StandsIn list kept (k + 1) j
  stands_left j ne s = record {
    place = s.place;
    where_it_is = elim s.where_it_is [
      | inl h ↦ inl h
      | inr h ↦ inr (let d : s.place ≢ k = λ g. ne (sym (s.clause no_entry) ∙ ap (λ z. (get_or list z no_entry).clause) g ∙ here no_entry) in omega (arith, h, d))
    ];
    within = s.within;
    clause = s.clause;
  }

  pub stands_from : (list' : List Watch) (j : ℕ) → length list' ≡ length list → ((i : ℕ) (e : Watch) → k + 1 ≤ i → get_or list' i e ≡ get_or list i e) → j ≢ j₀ → StandsFrom list k j → StandsFrom list' (k + 1) j
  stands_from list' j same rest ne w =
      let d : w.place ≢ k = λ g. ne (sym (w.clause no_entry) ∙ ap (λ z. (get_or list z no_entry).clause) g ∙ here no_entry) in
      let n : k + 1 ≤ w.place = omega (arith, w.from, d) in
      record {
        place = w.place;
        from = n;
        within = omega (arith, w.within, same);
        clause = λ e. ap (λ (z : Watch). z.clause) (rest w.place e n) ∙ w.clause e;
      }

  -- the entries from k + 1 on are not written
  pub rest_kept : (w : Watch) (i : ℕ) (e : Watch) → k + 1 ≤ i → get_or (set list kept w) i e ≡ get_or list i e
  rest_kept w i e h = get_or-set_other list kept i w e (λ g. omega (arith, h, g))

pub propagates_none : (F : List (List LitOf)) (t : List LitOf) → Propagates F t t
propagates_none F t = record { added = []; grown = sym (append-nil t); derived = λ G inc d. d; consistent = λ ok. ok }

pub propagates_trans : (F : List (List LitOf)) (s t u : List LitOf) → Propagates F s t → Propagates F t u → Propagates F s u
propagates_trans F s t u p q = record {
  added = p.added ++ q.added;
  grown = q.grown ∙ ap (λ z. z ++ q.added) p.grown ∙ append_assoc s p.added q.added;
  derived = λ G inc d. q.derived G inc (p.derived G inc d);
  consistent = λ ok. q.consistent (p.consistent ok);
}

-- a literal that a clause makes unit becomes true
pub propagates_unit : (F : List (List LitOf)) (t c : List LitOf) (l : LitOf) → Contains F c → Contains c l → IsFalsifiedBut t c l → IsUnassigned t l → Propagates F t (t ++ l ∷ [])
propagates_unit F t c l h k unit o = record {
  consistent = λ ok. consistent_push t l ok o;
  added = l ∷ [];
  grown = refl;
  derived = λ G inc d. record {
    each = λ m i. elim (Contains-push_cases t l m i) [
      | inl i ↦ d.each m i
      | inr e ↦ subst (Closure G) e (propagated c l (inc.each c h) k (λ x q n. d.each (negate x) (unit.each x q n)))
    ];
  };
}

pub propagates_grows : (F : List (List LitOf)) (s t : List LitOf) → Propagates F s t → (l : LitOf) → Contains s l → Contains t l
propagates_grows F s t p l h = subst (λ z. Contains z l) (sym p.grown) (Contains-append_left s p.added l h)

pub state_of : (s : State) (hs : List Head) (rs : List (List Watch)) (t : List LitOf) → s.heads ≡ hs → s.rows ≡ rs → s.trail ≡ t → s ≡ record { heads = hs; rows = rs; trail = t }
state_of s hs rs t e f g =
    let mk : List Head → List (List Watch) → List LitOf → State = λ a b x. record { heads = a; rows = b; trail = x } in
    ap (λ a. mk a s.rows s.trail) e ∙ ap (λ b. mk hs b s.trail) f ∙ ap (mk hs rs) g

module _ (slots : List (Option (List LitOf))) (start s : State) (f : LitOf) (p : List LitOf) (list : List Watch) (kept k j₀ : ℕ)
    (low : kept ≤ k) (within : k < length list) (here : (e : Watch) → (get_or list k e).clause ≡ j₀) where
  -- the entry is kept, and no watch changes
  pub visited_kept : (t : List LitOf) (w : Watch) → w.clause ≡ j₀ → EntryFits slots w → Propagates (clauses_of slots) s.trail t
      → IsVisited slots start s f list kept k → IsVisited slots start (record s { trail = t }) f (set list kept w) (kept + 1) (k + 1)
  visited_kept t w e fit grown v = record {
    entries = v.entries;
    list_entries = All-set (EntryFits slots) list kept w fit v.list_entries;
    wide = v.wide;
    filed = λ j d c h q n a. let x = v.filed j d c h q n a in (filed_kept j _ x.0, filed_kept j _ x.1);
    count = v.count;
    below = v.below;
    short = v.short;
    grown = propagates_trans (clauses_of slots) start.trail s.trail t v.grown grown;
  }
    where
      filed_kept : (j : ℕ) (u : LitOf) → IsFiledAt s.rows f list kept k j u → IsFiledAt s.rows f (set list kept w) (kept + 1) (k + 1) j u
      filed_kept j u x = record { here = λ g. stands_kept list kept k j₀ low within here w j e (x.here g); there = x.there }

  pub pending_kept : (t : List LitOf) (w : Watch) → ((l : LitOf) → Contains s.trail l → Contains t l)
      → ((d : Head) → IsKept (p ++ negate f ∷ []) t (slot_at slots j₀) (get_or s.heads j₀ d))
      → IsPending p f slots s list k → IsPending p f slots (record s { trail = t }) (set list kept w) (k + 1)
  pending_kept t w grows now q = record {
    dealt = λ x h. grows x (q.dealt x h);
    each = λ j d h. elim (cases_eq j j₀) [
      | inl e ↦ inl (subst (λ z. IsKept (p ++ negate f ∷ []) t (slot_at slots z) (get_or s.heads z d)) (sym e) (now d))
      | inr ne ↦ elim (q.each j d h) [
        | inl x ↦ inl (kept_grown (p ++ negate f ∷ []) s.trail (slot_at slots j) (get_or s.heads j d) x t grows)
        | inr x ↦ inr (
          kept_grown p s.trail (slot_at slots j) (get_or s.heads j d) x.0 t grows,
          stands_from list kept k j₀ low within here (set list kept w) j (length-set list kept w) (rest_kept list kept k j₀ low within here w) ne x.1,
        )
      ]
    ];
  }

  -- the entry goes, and its clause doesn't watch f
  pub visited_left : ((d : Head) → IsStale (get_or s.heads j₀ d) f) → IsVisited slots start s f list kept k → IsVisited slots start s f list kept (k + 1)
  visited_left stale v = record {
    entries = v.entries;
    list_entries = v.list_entries;
    wide = v.wide;
    filed = λ j d c h q n a. let x = v.filed j d c h q n a in
        elim (cases_eq j j₀) [
          | inl e ↦ elim (subst (λ z. IsStale (get_or s.heads z d) f) (sym e) (stale d)) [
            | inl g ↦ absurd (a g)
            | inr g ↦ (filed_away j _ g.0 x.0, filed_away j _ g.1 x.1)
          ]
          | inr ne ↦ (filed_other j _ ne x.0, filed_other j _ ne x.1)
        ];
    count = v.count;
    below = v.below;
    short = v.short;
    grown = v.grown;
  }
    where
      filed_away : (j : ℕ) (u : LitOf) → u ≢ f → IsFiledAt s.rows f list kept k j u → IsFiledAt s.rows f list kept (k + 1) j u
      filed_away j u n x = record { here = λ g. absurd (n g); there = x.there }

      filed_other : (j : ℕ) (u : LitOf) → j ≢ j₀ → IsFiledAt s.rows f list kept k j u → IsFiledAt s.rows f list kept (k + 1) j u
      filed_other j u n x = record { here = λ g. stands_left list kept k j₀ low within here j n (x.here g); there = x.there }

  pub pending_left : ((d : Head) → IsKept (p ++ negate f ∷ []) s.trail (slot_at slots j₀) (get_or s.heads j₀ d)) → IsPending p f slots s list k → IsPending p f slots s list (k + 1)
  pending_left now q = record {
    dealt = q.dealt;
    each = λ j d h. elim (cases_eq j j₀) [
      | inl e ↦ inl (subst (λ z. IsKept (p ++ negate f ∷ []) s.trail (slot_at slots z) (get_or s.heads z d)) (sym e) (now d))
      | inr ne ↦ elim (q.each j d h) [
        | inl x ↦ inl x
        | inr x ↦ inr (x.0, stands_from list kept k j₀ low within here list j refl (λ i e g. refl) ne x.1)
      ]
    ];
  }

  -- what is known of the clause of the entry
  pub kept_before : IsPending p f slots s list k → (d : Head) → j₀ < length s.heads → IsKept p s.trail (slot_at slots j₀) (get_or s.heads j₀ d)
  kept_before q d h = elim (q.each j₀ d h) [
    | inl x ↦ kept_less (p ++ negate f ∷ []) s.trail (slot_at slots j₀) (get_or s.heads j₀ d) x p (λ l i. Contains-append_left p (negate f ∷ []) l i)
    | inr x ↦ x.0
  ]

  -- the clause watches m in place of f
  module _ (c : List LitOf) (other m : LitOf) (n : Head) (room : j₀ < length s.heads) (there : slot_at slots j₀ ≡ Some c)
      (at : (d : Head) → Watches (get_or s.heads j₀ d) f other) (two : (d : Head) → (get_or s.heads j₀ d).left ≢ (get_or s.heads j₀ d).right)
      (in_clause : Contains c m) (ne : m ≢ other) (m_open : Contains s.trail (negate m) → ⊥) (nl : n.left ≡ other) (nr : n.right ≡ m) where
    abbrev pub moved_state : State
    moved_state = record { heads = set s.heads j₀ n; rows = set s.rows (index_of m) (row s.rows m ++ (record { clause = j₀; blocker = other }) ∷ []); trail = s.trail }

    row_grows : (u : LitOf) (j : ℕ) → IsListed (row s.rows u) j → IsListed (row moved_state.rows u) j
    row_grows u j x =
        elim (lit_cases u m) [
          | inl e ↦ elim (cases_lt (index_of m) (length s.rows)) [
            | inl h ↦ record {
              entry = x.entry;
              contains = subst (λ z. Contains z x.entry) (sym (ap (row moved_state.rows) e ∙ row_set_same s.rows m _ h))
                  (Contains-append_left (row s.rows m) _ x.entry (subst (λ z. Contains (row s.rows z) x.entry) e x.contains));
              clause = x.clause;
            }
            | inr h ↦ subst (λ z. IsListed (row z u) j) (sym (set_past s.rows (index_of m) _ h)) x
          ]
          | inr d ↦ subst (λ z. IsListed z j) (sym (row_set_other s.rows m u _ d)) x
        ]

    row_new : index_of m < length s.rows → IsListed (row moved_state.rows m) j₀
    row_new h = record {
      entry = record { clause = j₀; blocker = other };
      contains = subst (λ z. Contains z (record { clause = j₀; blocker = other })) (sym (row_set_same s.rows m _ h)) (Contains-push (row s.rows m) (record { clause = j₀; blocker = other }));
      clause = refl;
    }

    not_f : IsPending p f slots s list k → (u : LitOf) → (Contains s.trail (negate u) → ⊥) → u ≢ f
    not_f q u h e = h (subst (λ z. Contains s.trail (negate z)) (sym e) (q.dealt (negate f) (Contains-push p (negate f))))

    read_now : (d : Head) → get_or (set s.heads j₀ n) j₀ d ≡ n
    read_now d = get_or-set_same s.heads j₀ n d room

    read_other : (j : ℕ) (d : Head) → j ≢ j₀ → get_or (set s.heads j₀ n) j d ≡ get_or s.heads j d
    read_other j d ne' = get_or-set_other s.heads j₀ j n d ne'

    pub pending_moved : IsPending p f slots s list k → IsPending p f slots moved_state list (k + 1)
    pending_moved q = record {
      dealt = q.dealt;
      each = λ j d h. elim (cases_eq j j₀) [
        | inl e ↦ inl (subst (λ z. IsKept (p ++ negate f ∷ []) s.trail (slot_at slots z) (get_or (set s.heads j₀ n) z d)) (sym e)
            (subst (IsKept (p ++ negate f ∷ []) s.trail (slot_at slots j₀)) (sym (read_now d))
            (kept_moved p s.trail (slot_at slots j₀) (get_or s.heads j₀ d) (kept_before q d room) (p ++ negate f ∷ []) c f other m n (two d) (at d) there
            (λ x i. elim (Contains-push_cases p (negate f) x i) [ inl i ↦ inl i | inr g ↦ inr (sym g) ]) in_clause ne (λ i. m_open (q.dealt (negate m) i)) nl nr)))
        | inr ne' ↦ subst (λ z. IsKept (p ++ negate f ∷ []) s.trail (slot_at slots j) z ⊎ (IsKept p s.trail (slot_at slots j) z × StandsFrom list (k + 1) j)) (sym (read_other j d ne'))
            (elim (q.each j d (omega (arith, h, length-set s.heads j₀ n))) [
              | inl x ↦ inl x
              | inr x ↦ inr (x.0, stands_from list kept k j₀ low within here list j refl (λ i e g. refl) ne' x.1)
            ])
      ];
    }

    pub visited_moved : IsPending p f slots s list k → IsVisited slots start s f list kept k → IsVisited slots start moved_state f list kept (k + 1)
    visited_moved q v = record {
      entries = entries;
      list_entries = v.list_entries;
      wide = λ j c' l e h. omega (arith, v.wide j c' l e h, length-set s.rows (index_of m) (row s.rows m ++ (record { clause = j₀; blocker = other }) ∷ []));
      filed = filed;
      count = length-set s.heads j₀ n ∙ v.count;
      below = below;
      short = λ j d c' e h.
          let ne' : j ≢ j₀ = λ g. let same : c' ≡ c = (let e' : slot_at slots j₀ ≡ Some c' = subst (λ z. slot_at slots z ≡ Some c') g e in cc) in long (ap length (sym same) ∙ h) in
          read_other j d ne' ∙ v.short j d c' e h;
      grown = v.grown;
    }
      where
        first_entry : EntryFits slots (get_or list k (record { clause = j₀; blocker = other }))
        first_entry = All-get_or (EntryFits slots) list k _ within v.list_entries

        long : length c ≢ 2
        long = (first_entry c (ap (slot_at slots) (here _) ∙ there)).1

        other_facts : Contains c other × (other ≢ f)
        other_facts = let d : Head = n in other_in p s.trail (slot_at slots j₀) (get_or s.heads j₀ d) (kept_before q d room) c f other (two d) (at d) there

        m_not_f : m ≢ f
        m_not_f = not_f q m m_open

        old_entry : (u : LitOf) (w : Watch) → Contains (row s.rows u ++ (record { clause = j₀; blocker = other }) ∷ []) w → EntryFits slots w
        old_entry u w h =
            elim (Contains-push_cases (row s.rows u) (record { clause = j₀; blocker = other }) w h) [
              | inl i ↦ v.entries u w i
              | inr e ↦ subst (EntryFits slots) e (λ c' g. let same : c ≡ c' = cc in (subst (λ z. Contains z other) same other_facts.0, λ i. long (ap length same ∙ i)))
            ]

        entries : (u : LitOf) (w : Watch) → Contains (row moved_state.rows u) w → EntryFits slots w
        entries u w h =
            elim (lit_cases u m) [
              | inl e ↦ elim (cases_lt (index_of m) (length s.rows)) [
                | inl i ↦ old_entry m w (subst (λ z. Contains z w) (ap (row moved_state.rows) e ∙ row_set_same s.rows m _ i) h)
                | inr i ↦ v.entries u w (subst (λ z. Contains (row z u) w) (set_past s.rows (index_of m) _ i) h)
              ]
              | inr d ↦ v.entries u w (subst (λ z. Contains z w) (row_set_other s.rows m u _ d) h)
            ]

        filed_other : (j : ℕ) (u : LitOf) → j ≢ j₀ → IsFiledAt s.rows f list kept k j u → IsFiledAt moved_state.rows f list kept (k + 1) j u
        filed_other j u ne' x = record { here = λ g. stands_left list kept k j₀ low within here j ne' (x.here g); there = λ g. row_grows u j (x.there g) }

        -- the other watch stays filed, and the new one is filed now
        filed_first : (d : Head) → IsFiledAt s.rows f list kept k j₀ (get_or s.heads j₀ d).left × IsFiledAt s.rows f list kept k j₀ (get_or s.heads j₀ d).right
            → IsFiledAt moved_state.rows f list kept (k + 1) j₀ other × IsFiledAt moved_state.rows f list kept (k + 1) j₀ m
        filed_first d x =
            let o : IsFiledAt s.rows f list kept k j₀ other = elim (at d) [ inl a ↦ subst (IsFiledAt s.rows f list kept k j₀) a.1 x.1 | inr a ↦ subst (IsFiledAt s.rows f list kept k j₀) a.1 x.0 ] in (
              record { here = λ g. absurd (other_facts.1 g); there = λ g. row_grows other j₀ (o.there g) },
              record { here = λ g. absurd (m_not_f g); there = λ g. row_new (v.wide j₀ c m there in_clause) },
            )

        filed : (j : ℕ) (d : Head) (c' : List LitOf) → j < length moved_state.heads → slot_at slots j ≡ Some c' → length c' ≢ 2
            → (get_or moved_state.heads j d).left ≢ (get_or moved_state.heads j d).right
            → IsFiledAt moved_state.rows f list kept (k + 1) j (get_or moved_state.heads j d).left × IsFiledAt moved_state.rows f list kept (k + 1) j (get_or moved_state.heads j d).right
        filed j d c' h e long' a =
            elim (cases_eq j j₀) [
              | inl g ↦
                  let first = filed_first d (v.filed j₀ d c room there long (two d)) in
                  let now : get_or (set s.heads j₀ n) j d ≡ n = ap (λ z. get_or (set s.heads j₀ n) z d) g ∙ read_now d in
                  rw (now, nl, nr, g) first
              | inr ne' ↦
                  let x = v.filed j d c' (omega (arith, h, length-set s.heads j₀ n)) e long' (subst (λ (z : Head). z.left ≢ z.right) (read_other j d ne') a) in
                  subst (λ (z : Head). IsFiledAt moved_state.rows f list kept (k + 1) j z.left × IsFiledAt moved_state.rows f list kept (k + 1) j z.right) (sym (read_other j d ne'))
                  (filed_other j _ ne' x.0, filed_other j _ ne' x.1)
            ]

        below : (b : List LitOf) (j : ℕ) (d : Head) → ((l : LitOf) → Contains b l → Contains start.trail l) → j < length moved_state.heads
            → IsKept b b (slot_at slots j) (get_or start.heads j d) → IsKept b b (slot_at slots j) (get_or moved_state.heads j d)
        below b j d inside h x =
            let y = v.below b j d inside (omega (arith, h, length-set s.heads j₀ n)) x in
            elim (cases_eq j j₀) [
              | inl g ↦
                  let z = subst (λ i. IsKept b b (slot_at slots i) (get_or s.heads i d)) g y in
                  let grows = propagates_grows (clauses_of slots) start.trail s.trail v.grown in
                  subst (λ i. IsKept b b (slot_at slots i) (get_or (set s.heads j₀ n) i d)) (sym g)
                  (subst (IsKept b b (slot_at slots j₀)) (sym (read_now d))
                  (kept_moved b b (slot_at slots j₀) (get_or s.heads j₀ d) z b c f other m n (two d) (at d) there (λ l i. inl i) in_clause ne (λ i. m_open (grows (negate m) (inside (negate m) i))) nl nr))
              | inr ne' ↦ subst (IsKept b b (slot_at slots j)) (sym (read_other j d ne')) y
            ]
