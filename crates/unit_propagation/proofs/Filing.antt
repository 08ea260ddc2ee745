-- A clause that comes, and a clause that goes.
use Rattle.std.proofs.Common.{◌≡◌, ◌≢◌, ◌⊎◌, ℕ, ◌<◌, false, List, [], ◌∷◌, ◌++◌, length, get_or, set, refl, sym, ◌∙◌, ap, subst, inl, inr, arith}
use Rattle.std.specs.Prelude.{Contains, Option, Some, None, Result, Ok, Err, is_err, OnOk}
use Rattle.std.proofs.lemmas.Bool.{cases_eq, cases_lt, false≢true}
use Rattle.std.proofs.lemmas.List.{get_or-set_same, get_or-set_other, length-set, get_or_append_left, get_or_push, get_or_past, length_push, set_at}
use Rattle.cnf_form.specs.Cnf.{LitOf, negate, index_of}
use Rattle.cnf_form.proofs.Literals.{lit_cases}
use Rattle.cnf_form.proofs.Members.{Contains-empty, Contains-cases, Contains-one}
use Rattle.unit_propagation.specs.declared.watch.Head.{Head}
use Rattle.unit_propagation.specs.declared.watch.Watch.{Watch}
use Rattle.unit_propagation.specs.Propagation.{IsUnassigned, IsSatisfied}
use Rattle.unit_propagation.specs.Propagator.{slot_at}
use Rattle.unit_propagation.specs.Watch.{row, Watches, Enters, Sweeps}
use Rattle.unit_propagation.specs.Visit.{State, IsKept, AllKept, EntryFits, IsListed, IsPairOf, PairFits, IsFiled, IsFiledBut}

-- a clause of two literals has no third
pub no_third : (c : List LitOf) (l r m : LitOf) → length c ≡ 2 → Contains c l → Contains c r → l ≢ r → Contains c m → (m ≡ l) ⊎ (m ≡ r)
no_third [] l r m e hl hr d hm = absurd (Contains-empty m hm)
no_third (a ∷ []) l r m e hl hr d hm = absurd (d (sym (Contains-one a l hl) ∙ Contains-one a r hr))
no_third (a ∷ b ∷ []) l r m e hl hr d hm =
    elim (Contains-cases a l (b ∷ []) hl) [
      | inl al ↦ elim (Contains-cases a r (b ∷ []) hr) [
        | inl ar ↦ absurd (d (sym al ∙ ar))
        | inr br ↦ elim (Contains-cases a m (b ∷ []) hm) [ inl am ↦ inl (sym am ∙ al) | inr bm ↦ inr (sym (Contains-one b m bm) ∙ Contains-one b r br) ]
      ]
      | inr bl ↦ elim (Contains-cases a r (b ∷ []) hr) [
        | inl ar ↦ elim (Contains-cases a m (b ∷ []) hm) [ inl am ↦ inr (sym am ∙ ar) | inr bm ↦ inl (sym (Contains-one b m bm) ∙ Contains-one b l bl) ]
        | inr br ↦ absurd (d (sym (Contains-one b l bl) ∙ Contains-one b r br))
      ]
    ]
no_third (a ∷ b ∷ x ∷ c) l r m e hl hr d hm = absurd (omega (arith, e))

-- a slot more
pub slot_before : (slots : List (Option (List LitOf))) (o : Option (List LitOf)) (j : ℕ) → j < length slots → slot_at (slots ++ o ∷ []) j ≡ slot_at slots j
slot_before slots o j h = get_or_append_left slots (o ∷ []) None j h

pub slot_new : (slots : List (Option (List LitOf))) (o : Option (List LitOf)) (n : ℕ) → length slots ≡ n → slot_at (slots ++ o ∷ []) n ≡ o
slot_new slots o n e = get_or_push slots o None n e

pub some_below : (slots : List (Option (List LitOf))) (j : ℕ) (c : List LitOf) → slot_at slots j ≡ Some c → j < length slots
some_below slots j c e =
    elim (cases_lt j (length slots)) [
      | inl h ↦ h
      | inr h ↦ absurd (let f : None ≡ Some c = sym (get_or_past slots j None h) ∙ e in cc)
    ]

module _ (slots : List (Option (List LitOf))) (s : State) (pairs : List (List Watch)) (n : ℕ) (size : length slots ≡ n) (count : length s.heads ≡ n) where
  -- a clause is filed, its entries apart
  pub filed_push : (c : List LitOf) (h : Head) (rows' pairs' : List (List Watch)) → IsFiled slots s pairs
      → ((u : LitOf) (w : Watch) → Contains (row s.rows u) w → w.clause < n) → ((u : LitOf) (w : Watch) → Contains (row pairs u) w → w.clause < n)
      → ((l : LitOf) → Contains c l → index_of l < length s.rows) → length rows' ≡ length s.rows
      → (h.left ≢ h.right → Contains c h.left × Contains c h.right)
      → Enters s.rows rows' n h.left h.right → Enters pairs pairs' n h.left h.right
      → ((length c ≡ 2) ⊎ (h.left ≡ h.right) → rows' ≡ s.rows) → ((length c ≢ 2) ⊎ (h.left ≡ h.right) → pairs' ≡ pairs)
      → IsFiledBut n (slots ++ Some c ∷ []) (record { heads = s.heads ++ h ∷ []; rows = rows'; trail = s.trail }) pairs'
  filed_push c h rows' pairs' filed named pair_named broad same_rows attached enters pair_enters no_rows no_pairs = record {
    entries = entries;
    pair_entries = pair_entries;
    wide = λ j c' l e k. elim (cases_eq j n) [
      | inl g ↦ let here : Some c ≡ Some c' = sym (slot_new slots (Some c) n size) ∙ subst (λ z. slot_at (slots ++ Some c ∷ []) z ≡ Some c') g e in
          let same : c' ≡ c = cc in
          omega (arith, broad l (subst (λ z. Contains z l) same k), same_rows)
      | inr ne ↦ let inside = some_below (slots ++ Some c ∷ []) j c' e in
          let old : j < length slots = omega (arith, inside, length_push slots (Some c), ne, size) in
          omega (arith, filed.wide j c' l (sym (slot_before slots (Some c) j old) ∙ e) k, same_rows)
    ];
    long = λ j d c' k ne e lg a.
        let old : j < n = omega (arith, k, length_push s.heads h, ne, count) in
        let read : get_or (s.heads ++ h ∷ []) j d ≡ get_or s.heads j d = get_or_append_left s.heads (h ∷ []) d j (omega (arith, old, count)) in
        let x = filed.long j d c' (omega (arith, old, count)) (sym (slot_before slots (Some c) j (omega (arith, old, size))) ∙ e) lg (subst (λ (z : Head). z.left ≢ z.right) read a) in
        subst (λ (z : Head). IsListed (row rows' z.left) j × IsListed (row rows' z.right) j) (sym read) (still _ j x.0, still _ j x.1);
    short = λ j d c' k ne e two a.
        let old : j < n = omega (arith, k, length_push s.heads h, ne, count) in
        let read : get_or (s.heads ++ h ∷ []) j d ≡ get_or s.heads j d = get_or_append_left s.heads (h ∷ []) d j (omega (arith, old, count)) in
        let x = filed.short j d c' (omega (arith, old, count)) (sym (slot_before slots (Some c) j (omega (arith, old, size))) ∙ e) two (subst (λ (z : Head). z.left ≢ z.right) read a) in
        subst (λ (z : Head). Contains (row pairs' z.left) (record { clause = j; blocker = z.right }) × Contains (row pairs' z.right) (record { clause = j; blocker = z.left })) (sym read)
        (pair_enters.keeps _ _ x.0, pair_enters.keeps _ _ x.1);
  }
    where
      still : (u : LitOf) (j : ℕ) → IsListed (row s.rows u) j → IsListed (row rows' u) j
      still u j x = record { entry = x.entry; contains = enters.keeps u x.entry x.contains; clause = x.clause }

      slot_now : (c' : List LitOf) (j : ℕ) → j ≡ n → slot_at (slots ++ Some c ∷ []) j ≡ Some c' → c ≡ c'
      slot_now c' j g e = let here : Some c ≡ Some c' = sym (slot_new slots (Some c) n size) ∙ subst (λ z. slot_at (slots ++ Some c ∷ []) z ≡ Some c') g e in cc

      entries : (u : LitOf) (w : Watch) → Contains (row rows' u) w → EntryFits (slots ++ Some c ∷ []) w
      entries u w k = elim (enters.only u w k) [
        | inl i ↦ (λ c' e. filed.entries u w i c' (sym (slot_before slots (Some c) w.clause (omega (arith, named u w i, size))) ∙ e))
        | inr new ↦ (λ c' e.
            let same = slot_now c' w.clause new.0 e in
            elim (lit_cases h.left h.right) [
              | inl g ↦ absurd (omega (arith, new.0, named u w (subst (λ z. Contains (row z u) w) (no_rows (inr g)) k)))
              | inr d ↦ elim (cases_eq (length c) 2) [
                | inl two ↦ absurd (omega (arith, new.0, named u w (subst (λ z. Contains (row z u) w) (no_rows (inl two)) k)))
                | inr lg ↦ let a = attached d in
                    (subst (λ z. Contains z w.blocker) same (elim new.1 [ inl x ↦ subst (Contains c) (sym x.1) a.1 | inr x ↦ subst (Contains c) (sym x.1) a.0 ]), λ i. lg (ap length same ∙ i))
              ]
            ])
      ]

      old_pair : (u : LitOf) (w : Watch) → Contains (row pairs u) w → PairFits (slots ++ Some c ∷ []) (s.heads ++ h ∷ []) u w
      old_pair u w i c' e =
          let inside = pair_named u w i in
          let x = filed.pair_entries u w i c' (sym (slot_before slots (Some c) w.clause (omega (arith, inside, size))) ∙ e) in
          record {
            short = x.short;
            blocker = x.blocker;
            two = x.two;
            watches = λ d. subst (λ (z : Head). Watches z u w.blocker) (sym (get_or_append_left s.heads (h ∷ []) d w.clause (omega (arith, inside, count)))) (x.watches d);
            apart = λ d. subst (λ (z : Head). z.left ≢ z.right) (sym (get_or_append_left s.heads (h ∷ []) d w.clause (omega (arith, inside, count)))) (x.apart d);
          }

      pair_entries : (u : LitOf) (w : Watch) → Contains (row pairs' u) w → PairFits (slots ++ Some c ∷ []) (s.heads ++ h ∷ []) u w
      pair_entries u w k c' e = elim (pair_enters.only u w k) [
        | inl i ↦ old_pair u w i c' e
        | inr new ↦ elim (lit_cases h.left h.right) [
          | inl g ↦ old_pair u w (subst (λ z. Contains (row z u) w) (no_pairs (inr g)) k) c' e
          | inr d ↦ elim (cases_eq (length c) 2) [
            | inr lg ↦ old_pair u w (subst (λ z. Contains (row z u) w) (no_pairs (inl lg)) k) c' e
            | inl two ↦ let a = attached d in subst (IsPairOf (s.heads ++ h ∷ []) u w) (slot_now c' w.clause new.0 e) (record {
              short = two;
              blocker = elim new.1 [ inl x ↦ subst (Contains c) (sym x.1) a.1 | inr x ↦ subst (Contains c) (sym x.1) a.0 ];
              two = λ m i. elim (no_third c h.left h.right m two a.0 a.1 d i) [
                | inl g ↦ elim new.1 [ inl x ↦ inl (g ∙ sym x.0) | inr x ↦ inr (g ∙ sym x.1) ]
                | inr g ↦ elim new.1 [ inl x ↦ inr (g ∙ sym x.1) | inr x ↦ inl (g ∙ sym x.0) ]
              ];
              watches = λ e'.
                  let read : get_or (s.heads ++ h ∷ []) w.clause e' ≡ h = ap (λ z. get_or (s.heads ++ h ∷ []) z e') new.0 ∙ get_or_push s.heads h e' n count in
                  subst (λ (z : Head). Watches z u w.blocker) (sym read) (elim new.1 [ inl x ↦ inl (sym x.0, sym x.1) | inr x ↦ inr (sym x.0, sym x.1) ]);
              apart = λ e'.
                  let read : get_or (s.heads ++ h ∷ []) w.clause e' ≡ h = ap (λ z. get_or (s.heads ++ h ∷ []) z e') new.0 ∙ get_or_push s.heads h e' n count in
                  subst (λ (z : Head). z.left ≢ z.right) (sym read) d;
            })
          ]
        ]
      ]

  -- and with its entries it is filed
  pub filed_full : (c : List LitOf) (h : Head) (rows' pairs' : List (List Watch)) → IsFiledBut n (slots ++ Some c ∷ []) (record { heads = s.heads ++ h ∷ []; rows = rows'; trail = s.trail }) pairs'
      → (length c ≢ 2 → h.left ≢ h.right → Contains (row rows' h.left) (record { clause = n; blocker = h.right }) × Contains (row rows' h.right) (record { clause = n; blocker = h.left }))
      → (length c ≡ 2 → h.left ≢ h.right → Contains (row pairs' h.left) (record { clause = n; blocker = h.right }) × Contains (row pairs' h.right) (record { clause = n; blocker = h.left }))
      → IsFiled (slots ++ Some c ∷ []) (record { heads = s.heads ++ h ∷ []; rows = rows'; trail = s.trail }) pairs'
  filed_full c h rows' pairs' but listed paired = record {
    entries = but.entries;
    pair_entries = but.pair_entries;
    wide = but.wide;
    long = λ j d c' k e lg a. elim (cases_eq j n) [
      | inr ne ↦ but.long j d c' k ne e lg a
      | inl g ↦
          let read : get_or (s.heads ++ h ∷ []) j d ≡ h = ap (λ z. get_or (s.heads ++ h ∷ []) z d) g ∙ get_or_push s.heads h d n count in
          let same = slot_is c' j g e in
          let x = listed (λ i. lg (ap length (sym same) ∙ i)) (subst (λ (z : Head). z.left ≢ z.right) read a) in
          subst (λ (z : Head). IsListed (row rows' z.left) j × IsListed (row rows' z.right) j) (sym read)
          (record { entry = record { clause = n; blocker = h.right }; contains = x.0; clause = sym g }, record { entry = record { clause = n; blocker = h.left }; contains = x.1; clause = sym g })
    ];
    short = λ j d c' k e two a. elim (cases_eq j n) [
      | inr ne ↦ but.short j d c' k ne e two a
      | inl g ↦
          let read : get_or (s.heads ++ h ∷ []) j d ≡ h = ap (λ z. get_or (s.heads ++ h ∷ []) z d) g ∙ get_or_push s.heads h d n count in
          let same = slot_is c' j g e in
          let x = paired (ap length same ∙ two) (subst (λ (z : Head). z.left ≢ z.right) read a) in
          subst (λ (z : Head). Contains (row pairs' z.left) (record { clause = j; blocker = z.right }) × Contains (row pairs' z.right) (record { clause = j; blocker = z.left })) (sym read)
          (subst (λ z. Contains (row pairs' h.left) (record { clause = z; blocker = h.right }) × Contains (row pairs' h.right) (record { clause = z; blocker = h.left })) (sym g) x)
    ];
  }
    where
      slot_is : (c' : List LitOf) (j : ℕ) → j ≡ n → slot_at (slots ++ Some c ∷ []) j ≡ Some c' → c ≡ c'
      slot_is c' j g e = let here : Some c ≡ Some c' = sym (slot_new slots (Some c) n size) ∙ subst (λ z. slot_at (slots ++ Some c ∷ []) z ≡ Some c') g e in cc

  -- what was kept is kept beside it
  pub kept_push : (p t : List LitOf) (o : Option (List LitOf)) (h : Head) → AllKept p t slots s.heads → IsKept p t o h → AllKept p t (slots ++ o ∷ []) (s.heads ++ h ∷ [])
  kept_push p t o h all new j d k =
      elim (cases_eq j n) [
        | inl g ↦
            let read : get_or (s.heads ++ h ∷ []) j d ≡ h = ap (λ z. get_or (s.heads ++ h ∷ []) z d) g ∙ get_or_push s.heads h d n count in
            let slot : slot_at (slots ++ o ∷ []) j ≡ o = ap (slot_at (slots ++ o ∷ [])) g ∙ slot_new slots o n size in
            rw (read, slot) new
        | inr ne ↦
            let old : j < n = omega (arith, k, length_push s.heads h, ne, count) in
            let read : get_or (s.heads ++ h ∷ []) j d ≡ get_or s.heads j d = get_or_append_left s.heads (h ∷ []) d j (omega (arith, old, count)) in
            let slot : slot_at (slots ++ o ∷ []) j ≡ slot_at slots j = slot_before slots o j (omega (arith, old, size)) in
            rw (read, slot) (all j d (omega (arith, old, count)))
      ]

-- a clause goes
module _ (slots : List (Option (List LitOf))) (s : State) (pairs pairs' : List (List Watch)) (n : ℕ) (h : Head) (none : h.left ≡ h.right) (size : length slots ≡ length s.heads) (room : n < length s.heads) where
  slot_other : (j : ℕ) (c : List LitOf) → slot_at (set slots n None) j ≡ Some c → (j ≢ n) × (slot_at slots j ≡ Some c)
  slot_other j c e =
      let ne : j ≢ n = λ g. let f : None ≡ Some c = sym (get_or-set_same slots n None None (omega (arith, room, size))) ∙ subst (λ z. slot_at (set slots n None) z ≡ Some c) g e in cc in
      (ne, sym (get_or-set_other slots n j None None ne) ∙ e)

  pub filed_out : IsFiledBut n slots s pairs → Sweeps (set slots n None) pairs pairs' → IsFiled (set slots n None) (record s { heads = set s.heads n h }) pairs'
  filed_out but sweeps = record {
    entries = λ u w k c e. let o = slot_other w.clause c e in but.entries u w k c o.1;
    pair_entries = λ u w k c e.
        let o = slot_other w.clause c e in
        let x = but.pair_entries u w (sweeps.only u w k) c o.1 in
        record {
          short = x.short;
          blocker = x.blocker;
          two = x.two;
          watches = λ d. subst (λ (z : Head). Watches z u w.blocker) (sym (get_or-set_other s.heads n w.clause h d o.0)) (x.watches d);
          apart = λ d. subst (λ (z : Head). z.left ≢ z.right) (sym (get_or-set_other s.heads n w.clause h d o.0)) (x.apart d);
        };
    wide = λ j c l e k. let o = slot_other j c e in but.wide j c l o.1 k;
    long = λ j d c k e lg a.
        let o = slot_other j c e in
        let read = get_or-set_other s.heads n j h d o.0 in
        subst (λ (z : Head). IsListed (row s.rows z.left) j × IsListed (row s.rows z.right) j) (sym read)
        (but.long j d c (omega (arith, k, length-set s.heads n h)) o.0 o.1 lg (subst (λ (z : Head). z.left ≢ z.right) read a));
    short = λ j d c k e two a.
        let o = slot_other j c e in
        let read = get_or-set_other s.heads n j h d o.0 in
        let x = but.short j d c (omega (arith, k, length-set s.heads n h)) o.0 o.1 two (subst (λ (z : Head). z.left ≢ z.right) read a) in
        subst (λ (z : Head). Contains (row pairs' z.left) (record { clause = j; blocker = z.right }) × Contains (row pairs' z.right) (record { clause = j; blocker = z.left })) (sym read)
        (sweeps.keeps _ _ c x.0 e, sweeps.keeps _ _ c x.1 e);
  }

  -- each other clause is kept as it was
  pub kept_out : (p t : List LitOf) → ((j : ℕ) (d : Head) → j < length s.heads → j ≢ n → IsKept p t (slot_at slots j) (get_or s.heads j d)) → AllKept p t (set slots n None) (set s.heads n h)
  kept_out p t all j d k =
      elim (cases_eq j n) [
        | inl g ↦
            let read : get_or (set s.heads n h) j d ≡ h = ap (λ z. get_or (set s.heads n h) z d) g ∙ get_or-set_same s.heads n h d room in
            let slot : slot_at (set slots n None) j ≡ None = ap (slot_at (set slots n None)) g ∙ get_or-set_same slots n None None (omega (arith, room, size)) in
            rw (read, slot) (record { watched = λ d'. absurd (d' none); loose = λ e c f. absurd (let q : None ≡ Some c = f in cc) })
        | inr ne ↦ rw (get_or-set_other s.heads n j h d ne, get_or-set_other slots n j None None ne) (all j d (omega (arith, k, length-set s.heads n h)) ne)
      ]

-- a new clause is kept where its watches are unassigned, or where it is satisfied
pub kept_open : (p t c : List LitOf) (h : Head) → ((l : LitOf) → Contains p l → Contains t l) → h.left ≢ h.right → Contains c h.left → Contains c h.right → IsUnassigned t h.left → IsUnassigned t h.right → IsKept p t (Some c) h
kept_open p t c h less d l r a b = record {
  watched = λ _. (
    c,
    refl,
    record {
      left_in = l;
      right_in = r;
      two = d;
      left_kept = λ k. absurd (a.not_false (less (negate h.left) k));
      right_kept = λ k. absurd (b.not_false (less (negate h.right) k));
    },
  );
  loose = λ e c' f. absurd (d e);
}

pub kept_loose : (p t c : List LitOf) (h : Head) → h.left ≡ h.right → IsSatisfied t c → IsKept p t (Some c) h
kept_loose p t c h e s = record { watched = λ d. absurd (d e); loose = λ _ c' f. let same : c ≡ c' = cc in subst (IsSatisfied t) same s }

pub filed_but : (n : ℕ) (slots : List (Option (List LitOf))) (s : State) (pairs : List (List Watch)) → IsFiled slots s pairs → IsFiledBut n slots s pairs
filed_but n slots s pairs f = record {
  entries = f.entries;
  pair_entries = f.pair_entries;
  wide = f.wide;
  long = λ j d c h ne e lg a. f.long j d c h e lg a;
  short = λ j d c h ne e two a. f.short j d c h e two a;
}

pub from_ok : {T E : Type 0} (r : Result T E) (P : Type 0) → false ≡ is_err r → OnOk r P → P
from_ok (Ok x) P e h = h
from_ok (Err x) P e h = absurd (false≢true e)

pub slots_last : (slots : List (Option (List LitOf))) (o : Option (List LitOf)) (n : ℕ) → length slots ≡ n → set (slots ++ o ∷ []) n None ≡ slots ++ None ∷ []
slots_last slots o n e = set_at slots o [] None n e

-- beside a new clause that is removed again each clause is kept as it was
pub kept_before_last : (p t : List LitOf) (slots : List (Option (List LitOf))) (heads : List Head) (o : Option (List LitOf)) (h : Head) (n : ℕ) → length slots ≡ n → length heads ≡ n → AllKept p t slots heads
    → (j : ℕ) (d : Head) → j < length (heads ++ h ∷ []) → j ≢ n → IsKept p t (slot_at (slots ++ o ∷ []) j) (get_or (heads ++ h ∷ []) j d)
kept_before_last p t slots heads o h n size count all j d k ne =
    let old : j < n = omega (arith, k, length_push heads h, ne, count) in
    rw (get_or_append_left heads (h ∷ []) d j (omega (arith, old, count)), slot_before slots o j (omega (arith, old, size))) (all j d (omega (arith, old, count)))
