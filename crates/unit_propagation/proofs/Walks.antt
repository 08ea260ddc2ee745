-- Dealing with one literal: the pairs first, then its list.
use Rattle.std.proofs.Common.{◌≡◌, ◌≢◌, ◌⊎◌, ℕ, ◌+◌, ◌<◌, ◌≤◌, true, false, List, [], ◌∷◌, ◌++◌, length, get_or, set, take, refl, sym, ◌∙◌, ap, subst, inl, inr, arith}
use Rattle.std.specs.Prelude.{Contains, Option, Some, None, is_some, slice_get}
use Rattle.std.proofs.lemmas.Bool.{cases_eq, cases_lt, false≢true}
use Rattle.std.proofs.lemmas.List.{length-set, get_or-take, length-take-le, get_or_default, set_past, take_at, take_more, take-append-le, length-take}
use Rattle.std.proofs.lemmas.Option.{slice_get-get_or}
use Rattle.std.proofs.lemmas.List.Elements.{All-take, All-contains, Contains-append_left, Contains-push_cases, Contains-get_or}
use Rattle.cnf_form.specs.Cnf.{LitOf, negate, index_of}
use Rattle.cnf_form.proofs.Literals.{lit_cases, negate-negate}
use Rattle.cnf_form.proofs.Members.{Contains-empty}
use Rattle.unit_propagation.specs.declared.watch.Head.{Head}
use Rattle.unit_propagation.specs.declared.watch.Watch.{Watch}
use Rattle.unit_propagation.specs.declared.visit.Stop.{Stop}
use Rattle.unit_propagation.specs.declared.visit.Stop.TheVariants.{Conflict, Memory}
use Rattle.unit_propagation.specs.Propagation.{IsUnassigned, IsFalsified, Propagates}
use Rattle.unit_propagation.specs.Propagator.{slot_at, clauses_of}
use Rattle.unit_propagation.specs.Watch.{row, Watches}
use Rattle.unit_propagation.specs.Visit.{State, IsKept, AllKept, EntryFits, IsListed, StandsIn, StandsFrom, IsFiledAt, IsVisited, IsPending, StopFits, PairFits, IsFiled, Walks, EndFits, AllImplied, PairsFit, ImpliedFits}
use Rattle.unit_propagation.proofs.Rows.{row_set_same, row_set_other}
use Rattle.unit_propagation.proofs.Slots.{clauses_of-contains}
use Rattle.unit_propagation.proofs.Watched.{kept_grown, kept_satisfied, kept_stale}
use Rattle.unit_propagation.proofs.Visits.{propagates_none, propagates_trans, propagates_unit, propagates_grows}

-- an entry at some place is an entry from 0 on, in each of two ways
listed_place : (list : List Watch) (j : ℕ) → IsListed list j → (p : ℕ) × (p < length list) × ((e : Watch) → (get_or list p e).clause ≡ j)
listed_place list j x =
    let w = x.contains in
    (w.0, w.1, λ e. ap (λ (z : Watch). z.clause) (get_or_default list w.0 e x.entry w.1 ∙ w.2) ∙ x.clause)

stands_start : (list : List Watch) (j : ℕ) → IsListed list j → StandsIn list 0 0 j
stands_start list j x = let w = listed_place list j x in record { place = w.0; where_it_is = inr (omega arith); within = w.1; clause = w.2 }

from_start : (list : List Watch) (j : ℕ) → IsListed list j → StandsFrom list 0 j
from_start list j x = let w = listed_place list j x in record { place = w.0; from = omega arith; within = w.1; clause = w.2 }

-- at the end what stands is what was kept
listed_end : (list : List Watch) (kept k j : ℕ) → kept ≤ length list → length list ≤ k → StandsIn list kept k j → IsListed (take kept list) j
listed_end list kept k j room past s =
    elim s.where_it_is [
      | inl h ↦
          let e : Watch = get_or list s.place (record { clause = 0; blocker = record { var = 0; negated = true } }) in
          record {
            entry = e;
            contains = subst (Contains (take kept list)) (get_or-take kept list s.place e h ∙ get_or_default list s.place e _ s.within) (Contains-get_or (take kept list) s.place e (omega (arith, h, length-take-le kept list room)));
            clause = s.clause _;
          }
      | inr h ↦ absurd (omega (arith, h, past, s.within))
    ]

module _ (slots : List (Option (List LitOf))) (pairs : List (List Watch)) (p : List LitOf) (f : LitOf) where
  -- one entry of the pairs
  pub implied : (heads : List Head) (s t : List LitOf) (w : Watch) → PairFits slots heads f w → Contains s (negate f)
      → (t ≡ s) ⊎ (((c : List LitOf) × (slot_at slots w.clause ≡ Some c)) × IsUnassigned s w.blocker × (t ≡ s ++ w.blocker ∷ [])) → Propagates (clauses_of slots) s t
  implied heads s t w fit off grown =
      elim grown [
        | inl e ↦ subst (Propagates (clauses_of slots) s) (sym e) (propagates_none (clauses_of slots) s)
        | inr e ↦ let c = e.0 in
            let x = fit c.0 c.1 in
            subst (Propagates (clauses_of slots) s) (sym e.2) (propagates_unit (clauses_of slots) s c.0 w.blocker (clauses_of-contains slots w.clause c.0 c.1) x.blocker
            (record { each = λ m h d. elim (x.two m h) [ inl g ↦ subst (λ z. Contains s (negate z)) (sym g) off | inr g ↦ absurd (d g) ] }) e.1)
      ]

  pub pair_falsified : (heads : List Head) (t : List LitOf) (w : Watch) (c : List LitOf) → PairFits slots heads f w → slot_at slots w.clause ≡ Some c → Contains t (negate f) → Contains t (negate w.blocker) → IsFalsified t c
  pair_falsified heads t w c fit is off blocked =
      let x = fit c is in
      record { each = λ m h. elim (x.two m h) [ inl g ↦ subst (λ z. Contains t (negate z)) (sym g) off | inr g ↦ subst (λ z. Contains t (negate z)) (sym g) blocked ] }

  module _ (s : State) (filed : IsFiled slots s pairs) (kept : AllKept p s.trail slots s.heads) (dealt : (l : LitOf) → Contains (p ++ negate f ∷ []) l → Contains s.trail l) where
    abbrev pub taken : State
    taken = record s { rows = set s.rows (index_of f) [] }

    -- before the list of f is gone through
    pub visited_start : IsVisited slots taken taken f (row s.rows f) 0 0
    visited_start = record {
      entries = λ u w h. elim (lit_cases u f) [
        | inl e ↦ elim (cases_lt (index_of f) (length s.rows)) [
          | inl i ↦ absurd (Contains-empty w (subst (λ z. Contains z w) (ap (row taken.rows) e ∙ row_set_same s.rows f [] i) h))
          | inr i ↦ filed.entries u w (subst (λ z. Contains (row z u) w) (set_past s.rows (index_of f) [] i) h)
        ]
        | inr d ↦ filed.entries u w (subst (λ z. Contains z w) (row_set_other s.rows f u [] d) h)
      ];
      list_entries = λ k d h. filed.entries f (get_or (row s.rows f) k d) (Contains-get_or (row s.rows f) k d h);
      wide = λ j c l e h. omega (arith, filed.wide j c l e h, length-set s.rows (index_of f) []);
      filed = λ j d c h e n a. let x = filed.long j d c h e n a in (at_start j _ x.0, at_start j _ x.1);
      count = refl;
      below = λ b j d inside h x. x;
      short = λ j d c e h. refl;
      grown = propagates_none (clauses_of slots) s.trail;
    }
      where
        at_start : (j : ℕ) (u : LitOf) → IsListed (row s.rows u) j → IsFiledAt taken.rows f (row s.rows f) 0 0 j u
        at_start j u x = record {
          here = λ g. stands_start (row s.rows f) j (subst (λ z. IsListed (row s.rows z) j) g x);
          there = λ g. subst (λ z. IsListed z j) (sym (row_set_other s.rows f u [] g)) x;
        }

    -- each clause is kept with f dealt with, or has an entry
    pub pending_start : AllImplied slots (row pairs f) s.trail → IsPending p f slots taken (row s.rows f) 0
    pending_start blocked = record {
      dealt = dealt;
      each = λ j d h. let k = kept j d h in
          elim (lit_cases (get_or s.heads j d).left (get_or s.heads j d).right) [
            | inl e ↦ inl (kept_stale p s.trail (slot_at slots j) (get_or s.heads j d) k f (inl e))
            | inr ne ↦ let w = k.watched ne in
                let x = w.2 in
                elim (lit_cases (get_or s.heads j d).left f) [
                  | inl e ↦ elim (cases_eq (length w.0) 2) [
                    | inl two ↦ inl (satisfied j d k w.0 w.1 (get_or s.heads j d).right x.right_in
                        (blocked (record { clause = j; blocker = (get_or s.heads j d).right }) w.0 (subst (λ z. Contains (row pairs z) (record { clause = j; blocker = (get_or s.heads j d).right })) e (filed.short j d w.0 h w.1 two ne).0) w.1))
                    | inr long ↦ inr (k, from_start (row s.rows f) j (subst (λ z. IsListed (row s.rows z) j) e (filed.long j d w.0 h w.1 long ne).0))
                  ]
                  | inr dl ↦ elim (lit_cases (get_or s.heads j d).right f) [
                    | inl e ↦ elim (cases_eq (length w.0) 2) [
                      | inl two ↦ inl (satisfied j d k w.0 w.1 (get_or s.heads j d).left x.left_in
                          (blocked (record { clause = j; blocker = (get_or s.heads j d).left }) w.0 (subst (λ z. Contains (row pairs z) (record { clause = j; blocker = (get_or s.heads j d).left })) e (filed.short j d w.0 h w.1 two ne).1) w.1))
                      | inr long ↦ inr (k, from_start (row s.rows f) j (subst (λ z. IsListed (row s.rows z) j) e (filed.long j d w.0 h w.1 long ne).1))
                    ]
                    | inr dr ↦ inl (kept_stale p s.trail (slot_at slots j) (get_or s.heads j d) k f (inr (dl, dr)))
                  ]
                ]
          ];
    }
      where
        satisfied : (j : ℕ) (d : Head) → IsKept p s.trail (slot_at slots j) (get_or s.heads j d) → (c : List LitOf) → slot_at slots j ≡ Some c → (l : LitOf) → Contains c l → Contains s.trail l
            → IsKept (p ++ negate f ∷ []) s.trail (slot_at slots j) (get_or s.heads j d)
        satisfied j d k c e l h on = kept_satisfied p s.trail (slot_at slots j) (get_or s.heads j d) k (p ++ negate f ∷ []) s.trail
            (λ c' g. let same : c ≡ c' = cc in record { lit = l; contains = subst (λ z. Contains z l) same h; on = on })

    -- after the list was gone through and set again
    pub walks_end : (new : State) (list : List Watch) (n : ℕ) → index_of f < length new.rows → n ≤ length list → IsVisited slots taken new f list n (length list) → Walks slots pairs s (record new { rows = set new.rows (index_of f) (take n list) })
    walks_end new list n wide room v = record {
      filed = record {
        entries = λ u w h. elim (lit_cases u f) [
          | inl e ↦ elim (cases_lt (index_of f) (length new.rows)) [
            | inl i ↦ All-contains (EntryFits slots) (take n list) w (All-take (EntryFits slots) n list v.list_entries) (subst (λ z. Contains z w) (ap (row (set new.rows (index_of f) (take n list))) e ∙ row_set_same new.rows f (take n list) i) h)
            | inr i ↦ v.entries u w (subst (λ z. Contains (row z u) w) (set_past new.rows (index_of f) (take n list) i) h)
          ]
          | inr d ↦ v.entries u w (subst (λ z. Contains z w) (row_set_other new.rows f u (take n list) d) h)
        ];
        pair_entries = λ u w h c e. let x = filed.pair_entries u w h c e in record {
          short = x.short;
          blocker = x.blocker;
          two = x.two;
          watches = λ d. subst (λ (z : Head). Watches z u w.blocker) (sym (v.short w.clause d c e x.short)) (x.watches d);
          apart = λ d. subst (λ (z : Head). z.left ≢ z.right) (sym (v.short w.clause d c e x.short)) (x.apart d);
        };
        wide = λ j c l e h. omega (arith, v.wide j c l e h, length-set new.rows (index_of f) (take n list));
        long = λ j d c h e long a. let x = v.filed j d c h e long a in (at_end j _ x.0, at_end j _ x.1);
        short = λ j d c h e two a.
            let same = v.short j d c e two in
            subst (λ (z : Head). Contains (row pairs z.left) (record { clause = j; blocker = z.right }) × Contains (row pairs z.right) (record { clause = j; blocker = z.left })) (sym same)
            (filed.short j d c (omega (arith, h, v.count)) e two (subst (λ (z : Head). z.left ≢ z.right) same a));
      };
      grown = v.grown;
      count = v.count;
      below = v.below;
    }
      where
        at_end : (j : ℕ) (u : LitOf) → IsFiledAt new.rows f list n (length list) j u → IsListed (row (set new.rows (index_of f) (take n list)) u) j
        at_end j u x =
            elim (lit_cases u f) [
              | inl e ↦ subst (λ z. IsListed z j) (sym (ap (row (set new.rows (index_of f) (take n list))) e ∙ row_set_same new.rows f (take n list) wide)) (listed_end list n (length list) j room (omega arith) (x.here e))
              | inr d ↦ subst (λ z. IsListed z j) (sym (row_set_other new.rows f u (take n list) d)) (x.there d)
            ]

-- with no entry left each clause is kept with f dealt with
pub pending_all : (p : List LitOf) (f : LitOf) (slots : List (Option (List LitOf))) (s : State) (list : List Watch) (k : ℕ) → length list ≤ k → IsPending p f slots s list k → AllKept (p ++ negate f ∷ []) s.trail slots s.heads
pending_all p f slots s list k past q j d h = elim (q.each j d h) [ inl x ↦ x | inr x ↦ let y : StandsFrom list k j = x.1 in absurd (omega (arith, y.from, y.within, past)) ]

pub end_from_stop : (p : List LitOf) (f : LitOf) (slots : List (Option (List LitOf))) (s : State) (rows : List (List Watch)) (list : List Watch) (k : ℕ) (o : Option Stop) → length list ≤ k → StopFits p f slots s list k o
    → EndFits (p ++ negate f ∷ []) slots (record s { rows = rows }) o
end_from_stop p f slots s rows list k None past x = pending_all p f slots s list k past x
end_from_stop p f slots s rows list k (Some (Conflict j)) past x = x
end_from_stop p f slots s rows list k (Some Memory) past x = tt

-- one turn of the loop over the pairs
module _ (slots : List (Option (List LitOf))) (heads : List Head) (f : LitOf) (list : List Watch) (s t t' : List LitOf) (k : ℕ) (r x : Watch)
    (within : k < length list) (fit : (w : Watch) → Contains list w → PairFits slots heads f w) (off : Contains s (negate f)) (before : Propagates (clauses_of slots) s t) where
  off_still : Contains t (negate f)
  off_still = propagates_grows (clauses_of slots) s t before (negate f) off

  -- the clause and the blocker of the entry were read one after the other
  clause_read : (get_or list k r).clause ≡ (get_or list k x).clause
  clause_read = ap (λ (q : Watch). q.clause) (get_or_default list k r x within)

  abbrev pub Grows : Type 0
  Grows = (t' ≡ t) ⊎ (((c : List LitOf) × (slot_at slots (get_or list k r).clause ≡ Some c)) × IsUnassigned t (get_or list k x).blocker × (t' ≡ t ++ (get_or list k x).blocker ∷ []))

  pub pair_grown : Grows → Propagates (clauses_of slots) s t'
  pair_grown g = propagates_trans (clauses_of slots) s t t' before (implied slots [] [] f heads t t' (get_or list k x) (fit (get_or list k x) (Contains-get_or list k x within)) off_still
      (elim g [ inl e ↦ inl e | inr e ↦ let c = e.0 in inr ((c.0, subst (λ z. slot_at slots z ≡ Some c.0) clause_read c.1), e.1, e.2) ]))

  pub pair_more : ((i : ℕ) (d : Watch) (c : List LitOf) → i < k → slot_at slots (get_or list i d).clause ≡ Some c → Contains t (get_or list i d).blocker) → Grows
      → Contains t' (get_or list k x).blocker ⊎ (slot_at slots (get_or list k r).clause ≡ None)
      → (i : ℕ) (d : Watch) (c : List LitOf) → i < k + 1 → slot_at slots (get_or list i d).clause ≡ Some c → Contains t' (get_or list i d).blocker
  pair_more all g now i d c h is =
      elim (cases_eq i k) [
        | inl e ↦
            let same : get_or list k x ≡ get_or list i d = get_or_default list k x d within ∙ ap (λ z. get_or list z d) (sym e) in
            elim now [
              | inl y ↦ subst (λ (z : Watch). Contains t' z.blocker) same y
              | inr gone ↦ absurd (let q : None ≡ Some c = sym gone ∙ ap (slot_at slots) (clause_read ∙ ap (λ (z : Watch). z.clause) same) ∙ is in cc)
            ]
        | inr ne ↦ let y = all i d c (omega (arith, h, ne)) is in elim g [ inl e ↦ subst (λ z. Contains z (get_or list i d).blocker) (sym e) y | inr e ↦ subst (λ z. Contains z (get_or list i d).blocker) (sym e.2) (Contains-append_left t _ _ y) ]
      ]

  pub pair_ends : (o : Option Stop) → is_some o ≡ true → ImpliedFits slots t t' (get_or list k r).clause (get_or list k x).blocker o → PairsFit slots list t' o
  pair_ends None e y = absurd (false≢true e)
  pair_ends (Some (Conflict j)) e y =
      let w : Watch = get_or list k x in
      let c = y.1 in
      let z = pair_falsified slots [] [] f heads t w c.0 (fit w (Contains-get_or list k x within)) (subst (λ q. slot_at slots q ≡ Some c.0) clause_read c.1) off_still y.2 in
      (c.0, ap (slot_at slots) y.0 ∙ c.1, subst (λ q. IsFalsified q c.0) (sym y.3) z)
  pair_ends (Some Memory) e y = tt

pub pair_none : (slots : List (Option (List LitOf))) (s t : List LitOf) (k : ℕ) (b : LitOf) (o : Option Stop) → is_some o ≡ false → ImpliedFits slots s t k b o → Contains t b ⊎ (slot_at slots k ≡ None)
pair_none slots s t k b None e y = y
pair_none slots s t k b (Some x) e y = absurd (false≢true (sym e))

pub pairs_all : (slots : List (Option (List LitOf))) (list : List Watch) (t : List LitOf) (k : ℕ) → length list ≤ k
    → ((i : ℕ) (d : Watch) (c : List LitOf) → i < k → slot_at slots (get_or list i d).clause ≡ Some c → Contains t (get_or list i d).blocker) → AllImplied slots list t
pairs_all slots list t k past all w c h is = subst (λ (z : Watch). Contains t z.blocker) h.2 (all h.0 w c (omega (arith, h.1, past)) (subst (λ (z : Watch). slot_at slots z.clause ≡ Some c) (sym h.2) is))

pub take_front : (n m : ℕ) (xs ys : List Watch) → m ≡ length xs → take n (take m (xs ++ ys)) ≡ take n xs
take_front n m xs ys e = ap (take n) (take_at xs ys m (sym e))

-- a walk that only made literals true
pub walks_grown : (slots : List (Option (List LitOf))) (pairs : List (List Watch)) (s : State) (t : List LitOf) → IsFiled slots s pairs → Propagates (clauses_of slots) s.trail t → Walks slots pairs s (record s { trail = t })
walks_grown slots pairs s t filed grown = record {
  filed = record { entries = filed.entries; pair_entries = filed.pair_entries; wide = filed.wide; long = filed.long; short = filed.short };
  grown = grown;
  count = refl;
  below = λ b j d inside h x. x;
}

pub walks_trans : (slots : List (Option (List LitOf))) (pairs : List (List Watch)) (r s u : State) → Walks slots pairs r s → Walks slots pairs s u → Walks slots pairs r u
walks_trans slots pairs r s u a b = record {
  filed = b.filed;
  grown = propagates_trans (clauses_of slots) r.trail s.trail u.trail a.grown b.grown;
  count = b.count ∙ a.count;
  below = λ c j d inside h x. b.below c j d (λ l i. propagates_grows (clauses_of slots) r.trail s.trail a.grown l (inside l i)) h (a.below c j d inside (omega (arith, h, b.count)) x);
}

pub kept_all_grown : (p t u : List LitOf) (slots : List (Option (List LitOf))) (heads : List Head) → ((l : LitOf) → Contains t l → Contains u l) → AllKept p t slots heads → AllKept p u slots heads
kept_all_grown p t u slots heads grows k j d h = kept_grown p t (slot_at slots j) (get_or heads j d) (k j d h) u grows

pub end_from_pairs : (p : List LitOf) (slots : List (Option (List LitOf))) (s : State) (list : List Watch) (o : Option Stop) → is_some o ≡ true → PairsFit slots list s.trail o → EndFits p slots s o
end_from_pairs p slots s list None e y = absurd (false≢true e)
end_from_pairs p slots s list (Some (Conflict j)) e y = y
end_from_pairs p slots s list (Some Memory) e y = tt

pub pairs_none : (slots : List (Option (List LitOf))) (list : List Watch) (t : List LitOf) (o : Option Stop) → is_some o ≡ false → PairsFit slots list t o → AllImplied slots list t
pairs_none slots list t None e y = y
pairs_none slots list t (Some x) e y = absurd (false≢true (sym e))

pub end_some : (p q : List LitOf) (slots : List (Option (List LitOf))) (s : State) (o : Option Stop) → is_some o ≡ true → EndFits p slots s o → EndFits q slots s o
end_some p q slots s None e y = absurd (false≢true e)
end_some p q slots s (Some (Conflict j)) e y = y
end_some p q slots s (Some Memory) e y = tt

pub end_none : (p : List LitOf) (slots : List (Option (List LitOf))) (s : State) (o : Option Stop) → is_some o ≡ false → EndFits p slots s o → AllKept p s.trail slots s.heads
end_none p slots s None e y = y
end_none p slots s (Some x) e y = absurd (false≢true (sym e))

-- the literal at a place of a trail is dealt with next
pub dealt_next : (t : List LitOf) (i : ℕ) (l : LitOf) → i < length t → slice_get t i ≡ Some l → (m : LitOf) → Contains (take i t ++ negate (negate l) ∷ []) m → Contains t m
dealt_next t i l h e m k =
    let read : get_or t i l ≡ l = (let f : Some (get_or t i l) ≡ Some l = sym (slice_get-get_or t i l h) ∙ e in cc) in
    elim (Contains-push_cases (take i t) (negate (negate l)) m k) [
      | inl k ↦ (k.0, omega (arith, k.1, length-take i t), sym (get_or-take i t k.0 m (omega (arith, k.1, length-take i t))) ∙ k.2)
      | inr g ↦ subst (Contains t) (sym (negate-negate l) ∙ g) (subst (Contains t) read (Contains-get_or t i l h))
    ]

pub take_next : (t u added : List LitOf) (i : ℕ) (l : LitOf) → i < length t → slice_get t i ≡ Some l → u ≡ t ++ added → take i t ++ negate (negate l) ∷ [] ≡ take (i + 1) u
take_next t u added i l h e g =
    let read : get_or t i l ≡ l = (let f : Some (get_or t i l) ≡ Some l = sym (slice_get-get_or t i l h) ∙ e in cc) in
    ap (λ z. take i t ++ z ∷ []) (negate-negate l ∙ sym read) ∙ sym (take_more t i l h) ∙ sym (take-append-le (i + 1) t added (omega (arith, h))) ∙ ap (take (i + 1)) (sym g)
