-- What holds of the fields when clauses come and go.
use Rattle.std.proofs.Common.{◌≡◌, ◌⊎◌, ℕ, ◌+◌, ◌*◌, ◌%◌, ◌^◌, ◌<◌, ◌≤◌, Bool, true, false, List, [], ◌∷◌, ◌++◌, length, get_or, set, replicate, refl, zero, suc, sym, ◌∙◌, ap, subst, inl, inr, arith}
use Rattle.std.specs.Prelude.{Contains, All, Option, Some, None}
use Rattle.std.specs.declared.vec.Vec.{Vec}
use Rattle.std.specs.declared.alloc.Global.{Global}
use Rattle.std.proofs.lemmas.Bool.{both_ways, cases_eq, cases_lt}
use Rattle.std.proofs.lemmas.List.{get_or-set_same, get_or-set_other, get_or_append_left, get_or_push, get_or_past, get_or-replicate, get_or-map, get_or_default, map-set, set-get_or, length_push, length-set, length-map, length-replicate, set_past}
use Rattle.std.proofs.lemmas.List.Elements.{All-head, All-tail, All-contains, Contains-append_left, Contains-push, Contains-push_cases}
use Rattle.cnf_form.specs.Cnf.{LitOf, LitWithin, ClauseWithin, index_of}
use Rattle.cnf_form.specs.declared.literal.TheConstants.{MAX_VARS}
use Rattle.cnf_form.proofs.Members.{Contains-empty}
use Rattle.unit_propagation.proofs.Trails.{index_room}
use Rattle.unit_propagation.specs.Marks.{is_marked}
use Rattle.unit_propagation.proofs.Slots.{clauses_of-slot}
use Rattle.unit_propagation.specs.Propagator.{slot_at, clauses_of}
use Rattle.frozen_clauses.specs.declared.entry.TheConstants.{LISTS}
use Rattle.frozen_clauses.specs.declared.entry.Entry.{Entry}
use Rattle.frozen_clauses.specs.Inside.{slot_of, slots_of, rows_of, row, HasPlace, EntryFits, IsListed, IsClear, IsCovered, IsFrozen}

-- a literal over the variables has a place among the marks
lit_has_place : (vars size : ℕ) (l : LitOf) → size ≡ 2 * vars + 2 → LitWithin vars l → HasPlace size l
lit_has_place vars size l e h = omega (arith, index_room l vars h.1, e)

-- the clause that is read at a number
pub slot_read : (clauses : List (Option (Vec LitOf Global))) (k : ℕ) (o : Option (Vec LitOf Global)) (v : Vec LitOf Global) (c : List LitOf) → k < length clauses → o ≡ get_or clauses k o → o ≡ Some v → c ≡ v.items → slot_at (slots_of clauses) k ≡ Some c
slot_read clauses k o v c room is e same = get_or-map slot_of clauses k o None room ∙ ap slot_of (sym is ∙ e) ∙ ap (λ (x : List LitOf). Some x) (sym same)

-- the list that is read at a literal's place
row_read : (lists : List (Vec Entry Global)) (i : ℕ) (v : Vec Entry Global) → i < length lists → v ≡ get_or lists i v → get_or (rows_of lists) i [] ≡ v.items
row_read lists i v room e = get_or-map (λ (z : Vec Entry Global). z.items) lists i v [] room ∙ ap (λ (z : Vec Entry Global). z.items) (sym e)

pub row_is : (lists : List (Vec Entry Global)) (l : LitOf) (i : ℕ) (v : Vec Entry Global) (xs : List Entry) → length lists ≡ LISTS → i ≡ index_of l → v ≡ get_or lists (i % LISTS) v → xs ≡ v.items → row (rows_of lists) l ≡ xs
row_is lists l i v xs count at is same = ap (λ n. get_or (rows_of lists) (n % LISTS) []) (sym at) ∙ row_read lists (i % LISTS) v (omega (arith, count)) is ∙ sym same

-- a list was written at a literal's place
module _ (lists : List (Vec Entry Global)) (i : ℕ) (v v' : Vec Entry Global) (count : length lists ≡ LISTS) (is : v ≡ get_or lists (i % LISTS) v) where
  written : rows_of (set lists (i % LISTS) v') ≡ set (rows_of lists) (i % LISTS) v'.items
  written = map-set (λ (z : Vec Entry Global). z.items) lists (i % LISTS) v'

  pub rows_same : v'.items ≡ v.items → rows_of (set lists (i % LISTS) v') ≡ rows_of lists
  rows_same same =
      written ∙ ap (set (rows_of lists) (i % LISTS)) (same ∙ sym (row_read lists (i % LISTS) v (omega (arith, count)) is)) ∙ set-get_or (rows_of lists) (i % LISTS) []

  pub rows_more : (l : LitOf) (e : Entry) → i ≡ index_of l → v'.items ≡ v.items ++ e ∷ [] → rows_of (set lists (i % LISTS) v') ≡ set (rows_of lists) (index_of l % LISTS) (row (rows_of lists) l ++ e ∷ [])
  rows_more l e at pushed =
      written ∙ ap (λ n. set (rows_of lists) (n % LISTS) v'.items) at
      ∙ ap (set (rows_of lists) (index_of l % LISTS)) (pushed ∙ ap (λ z. z ++ e ∷ []) (sym (row_is lists l i v v.items count at is refl)))

-- a loop over a list went one further
pub one_more : {X : Type 0} (P : X → Type 0) (xs : List X) (i : ℕ) (x : X) → i < length xs → x ≡ get_or xs i x → ((j : ℕ) (d : X) → j < i → P (get_or xs j d)) → P x → (j : ℕ) (d : X) → j < i + 1 → P (get_or xs j d)
one_more P xs i x room is below here j d h = elim (cases_lt j i) [
  | inl k ↦ below j d k
  | inr k ↦ let e : j ≡ i = omega arith in subst P (is ∙ get_or_default xs i x d room ∙ ap (λ n. get_or xs n d) (sym e)) here
]

-- nothing is in lists that are empty
empty_row : (lists : List (Vec Entry Global)) (i : ℕ) → All (λ (v : Vec Entry Global). v.items ≡ []) lists → get_or (rows_of lists) i [] ≡ []
empty_row lists i h = elim (cases_lt i (length lists)) [
  | inl k ↦ go lists i h k
  | inr k ↦ get_or_past (rows_of lists) i [] (omega (arith, k, length-map lists (λ (v : Vec Entry Global). v.items)))
]
  where
    go : (xs : List (Vec Entry Global)) (i : ℕ) → All (λ (v : Vec Entry Global). v.items ≡ []) xs → i < length xs → get_or (rows_of xs) i [] ≡ []
    go [] i h k = refl
    go (x ∷ xs) zero h k = All-head (λ (v : Vec Entry Global). v.items ≡ []) x xs h
    go (x ∷ xs) (suc i) h k = go xs i (All-tail (λ (v : Vec Entry Global). v.items ≡ []) x xs h) (omega arith)

nothing_at : (k : ℕ) (c : List LitOf) → slot_at [] k ≡ Some c → ⊥
nothing_at k c e = let f : None ≡ Some c = e in cc

false_marks : (n : ℕ) → IsClear (replicate n false)
false_marks n l h = elim (cases_lt (index_of l) n) [
  | inl k ↦ both_ways _ (get_or-replicate n (index_of l) false false k) h
  | inr k ↦ both_ways _ (get_or_past (replicate n false) (index_of l) false (omega (arith, k, length-replicate n false))) h
]

pub frozen_new : (vars : ℕ) (clauses : List (Option (Vec LitOf Global))) (lists : List (Vec Entry Global)) (marks : List Bool) → vars ≤ MAX_VARS → clauses ≡ [] → length lists ≡ LISTS → All (λ (v : Vec Entry Global). v.items ≡ []) lists → marks ≡ replicate (2 * vars + 2) false → IsFrozen vars (slots_of clauses) (rows_of lists) marks
frozen_new vars clauses lists marks limit none count empty unmarked = subst (λ z. IsFrozen vars (slots_of z) (rows_of lists) marks) (sym none) (subst (IsFrozen vars [] (rows_of lists)) (sym unmarked) (record {
  limit = limit;
  few = omega arith;
  sized = length-replicate (2 * vars + 2) false;
  clear = false_marks (2 * vars + 2);
  lists = length-map lists (λ (v : Vec Entry Global). v.items) ∙ count;
  within = λ k c e. absurd (nothing_at k c e);
  full = λ k c e. absurd (nothing_at k c e);
  entries = λ l e h. absurd (Contains-empty e (subst (λ z. Contains z e) (empty_row lists (index_of l % LISTS) empty) h));
  listed = λ k c e. absurd (nothing_at k c e);
}))

module _ (vars : ℕ) (slots : List (Option (List LitOf))) (rows : List (List Entry)) (marks : List Bool) (w : IsFrozen vars slots rows marks) where
  slot_less : (k j : ℕ) (c : List LitOf) → slot_at (set slots k None) j ≡ Some c → slot_at slots j ≡ Some c
  slot_less k j c h = elim (cases_eq j k) [
    | inl e ↦ elim (cases_lt k (length slots)) [
      | inl i ↦ absurd (let f : None ≡ Some c = sym (get_or-set_same slots k None None i) ∙ subst (λ z. slot_at (set slots k None) z ≡ Some c) e h in cc)
      | inr i ↦ subst (λ z. slot_at z j ≡ Some c) (set_past slots k None i) h
    ]
    | inr d ↦ sym (get_or-set_other slots k j None None d) ∙ h
  ]

  pub frozen_less : (k : ℕ) → IsFrozen vars (set slots k None) rows marks
  frozen_less k = record {
    limit = w.limit;
    few = omega (arith, w.few, length-set slots k None);
    sized = w.sized;
    clear = w.clear;
    lists = w.lists;
    within = λ j c e. w.within j c (slot_less k j c e);
    full = λ j c e. w.full j c (slot_less k j c e);
    entries = λ l e h. subst (λ n. EntryFits n (length marks) e) (sym (length-set slots k None)) (w.entries l e h);
    listed = λ j c e. w.listed j c (slot_less k j c e);
  }

  -- a clause came, and an entry in the list of one of its literals
  module _ (clause : List LitOf) (l : LitOf) (e : Entry) (few : length slots + 1 < 2 ^ 32) (within : ClauseWithin vars clause) (full : 0 < length clause)
      (on : Contains clause l) (names : e.clause ≡ length slots) (second : Contains clause e.second) (third : Contains clause e.third) where
    abbrev more : List (Option (List LitOf))
    more = slots ++ Some clause ∷ []

    abbrev entered : List (List Entry)
    entered = set rows (index_of l % LISTS) (row rows l ++ e ∷ [])

    room : index_of l % LISTS < length rows
    room = omega (arith, w.lists)

    slot_cases : (k : ℕ) (c : List LitOf) → slot_at more k ≡ Some c → (slot_at slots k ≡ Some c) ⊎ ((k ≡ length slots) × (c ≡ clause))
    slot_cases k c h = elim (cases_lt k (length slots)) [
      | inl i ↦ inl (sym (get_or_append_left slots (Some clause ∷ []) None k i) ∙ h)
      | inr i ↦ elim (cases_eq k (length slots)) [
        | inl q ↦ inr (q, let f : Some clause ≡ Some c = sym (get_or_push slots (Some clause) None k (sym q)) ∙ h in cc)
        | inr d ↦ absurd (let f : None ≡ Some c = sym (get_or_past more k None (omega (arith, i, d, length_push slots (Some clause)))) ∙ h in cc)
      ]
    ]

    row_keeps : (u : LitOf) (x : Entry) → Contains (row rows u) x → Contains (row entered u) x
    row_keeps u x h = elim (cases_eq (index_of u % LISTS) (index_of l % LISTS)) [
      | inl q ↦ subst (λ i. Contains (get_or entered i []) x) (sym q) (subst (λ z. Contains z x) (sym (get_or-set_same rows (index_of l % LISTS) (row rows l ++ e ∷ []) [] room))
          (Contains-append_left (row rows l) (e ∷ []) x (subst (λ i. Contains (get_or rows i []) x) q h)))
      | inr d ↦ subst (λ z. Contains z x) (sym (get_or-set_other rows (index_of l % LISTS) (index_of u % LISTS) (row rows l ++ e ∷ []) [] d)) h
    ]

    row_cases : (u : LitOf) (x : Entry) → Contains (row entered u) x → Contains (row rows u) x ⊎ (e ≡ x)
    row_cases u x h = elim (cases_eq (index_of u % LISTS) (index_of l % LISTS)) [
      | inl q ↦ elim (Contains-push_cases (row rows l) e x (subst (λ z. Contains z x) (get_or-set_same rows (index_of l % LISTS) (row rows l ++ e ∷ []) [] room) (subst (λ i. Contains (get_or entered i []) x) q h))) [
        | inl k ↦ inl (subst (λ i. Contains (get_or rows i []) x) (sym q) k)
        | inr f ↦ inr f
      ]
      | inr d ↦ inl (subst (λ z. Contains z x) (get_or-set_other rows (index_of l % LISTS) (index_of u % LISTS) (row rows l ++ e ∷ []) [] d) h)
    ]

    lit_at : (m : LitOf) → Contains clause m → HasPlace (length marks) m
    lit_at m h = lit_has_place vars (length marks) m w.sized (All-contains (LitWithin vars) clause m within h)

    new_fits : EntryFits (length more) (length marks) e
    new_fits = record { clause = omega (arith, names, length_push slots (Some clause)); second = lit_at e.second second; third = lit_at e.third third }

    old_fits : (x : Entry) → EntryFits (length slots) (length marks) x → EntryFits (length more) (length marks) x
    old_fits x f = record { clause = omega (arith, f.clause, length_push slots (Some clause)); second = f.second; third = f.third }

    new_listed : IsListed entered (length slots) clause
    new_listed = record {
      lit = l;
      entry = e;
      on = on;
      there = subst (λ z. Contains z e) (sym (get_or-set_same rows (index_of l % LISTS) (row rows l ++ e ∷ []) [] room)) (Contains-push (row rows l) e);
      names = names;
      second = second;
      third = third;
    }

    old_listed : (k : ℕ) (c : List LitOf) → IsListed rows k c → IsListed entered k c
    old_listed k c i = record { lit = i.lit; entry = i.entry; on = i.on; there = row_keeps i.lit i.entry i.there; names = i.names; second = i.second; third = i.third }

    pub frozen_more : IsFrozen vars more entered marks
    frozen_more = record {
      limit = w.limit;
      few = omega (arith, few, length_push slots (Some clause));
      sized = w.sized;
      clear = w.clear;
      lists = length-set rows (index_of l % LISTS) (row rows l ++ e ∷ []) ∙ w.lists;
      within = λ k c h. elim (slot_cases k c h) [ inl i ↦ w.within k c i | inr q ↦ subst (ClauseWithin vars) (sym q.1) within ];
      full = λ k c h. elim (slot_cases k c h) [ inl i ↦ w.full k c i | inr q ↦ subst (λ z. 0 < length z) (sym q.1) full ];
      entries = λ u x h. elim (row_cases u x h) [ inl i ↦ old_fits x (w.entries u x i) | inr q ↦ subst (EntryFits (length more) (length marks)) q new_fits ];
      listed = λ k c h. elim (slot_cases k c h) [
        | inl i ↦ old_listed k c (w.listed k c i)
        | inr q ↦ subst (λ z. IsListed entered z c) (sym q.0) (subst (IsListed entered (length slots)) (sym q.1) new_listed)
      ];
    }

  -- marks that were set for a clause
  module _ (clause : List LitOf) (marked : List Bool) (on : (l : LitOf) → Contains clause l → is_marked marked l ≡ true)
      (only : (l : LitOf) → is_marked marked l ≡ true → (is_marked marks l ≡ true) ⊎ Contains clause l) where
    pub covered_is_subset : (k : ℕ) → IsCovered marked slots k → (c : List LitOf) × (slot_at slots k ≡ Some c) × ((l : LitOf) → Contains c l → Contains clause l)
    covered_is_subset k h = (h.0, h.1, λ l i. elim (only l (h.2 l i)) [ inl m ↦ absurd (w.clear l m) | inr j ↦ j ])

    pub subset_is_covered : ((l : LitOf) (e : Entry) → Contains clause l → Contains (row rows l) e → is_marked marked e.second ≡ true → is_marked marked e.third ≡ true → IsCovered marked slots e.clause → ⊥)
        → (c : List LitOf) → Contains (clauses_of slots) c → ((l : LitOf) → Contains c l → Contains clause l) → ⊥
    subset_is_covered none c h sub =
        let s = clauses_of-slot slots c h in
        let i = w.listed s.0 c s.2 in
        let all : IsCovered marked slots s.0 = (c, s.2, λ l k. on l (sub l k)) in
        none i.lit i.entry (sub i.lit i.on) i.there (on i.entry.second (sub i.entry.second i.second)) (on i.entry.third (sub i.entry.third i.third)) (subst (IsCovered marked slots) (sym i.names) all)

    pub frozen_unmarked : (new : List Bool) → length new ≡ length marks → ((l : LitOf) → is_marked new l ≡ true → (is_marked marked l ≡ true) × (Contains clause l → ⊥)) → IsFrozen vars slots rows new
    frozen_unmarked new same off = record {
      limit = w.limit;
      few = w.few;
      sized = same ∙ w.sized;
      clear = λ l h. elim (only l (off l h).0) [ inl m ↦ w.clear l m | inr i ↦ (off l h).1 i ];
      lists = w.lists;
      within = w.within;
      full = w.full;
      entries = λ l e h. subst (λ n. EntryFits (length slots) n e) (sym same) (w.entries l e h);
      listed = w.listed;
    }
