-- Ids of clauses that come, go and move.
use Rattle.std.proofs.Common.{◌≡◌, ◌≢◌, ◌⊎◌, ℕ, zero, suc, ◌+◌, ◌-◌, ◌<◌, ◌≤◌, true, false, eqb, cond, List, [], ◌∷◌, ◌++◌, length, map, set, take, refl, sym, ◌∙◌, ap, subst, inl, inr, add-one, arith, length-append, length-set}
use Rattle.std.specs.Prelude.{Option, Some, None, replicate}
use Rattle.std.proofs.lemmas.Bool.{cases_Bool, cases_eq, eqb-true, eq-eqb}
use Rattle.std.proofs.lemmas.List.{get_or_past, get_or_push, get_or_append_left, get_or-set_same, get_or-set_other, get_or_default, length-map, length-take-le}
use Rattle.cnf_form.proofs.Members.{take_one_more}
use Rattle.cnf_form.specs.Cnf.{LitOf, index_of}
use Rattle.cnf_form.proofs.Literals.{index_of-injective, lit_cases}
use Rattle.unit_propagation.specs.Propagator.{slot_at, clauses_of, present}
use Rattle.lrat_check.specs.Hints.{Live, numbered, put}
use Rattle.hint_chain.specs.Ids.{Place, Watched, Frozen, Fact, IdsOf, IsNamed, Names, id_at}
use Rattle.hint_chain.specs.Kept.{kept}

-- the id is at this place from now on
abbrev moved : (ℕ → Place) → ℕ → Place → ℕ → Place
moved owner id p n = cond (eqb id n) p (owner n)

eqb_not : (a b : ℕ) → b ≢ a → eqb a b ≡ false
eqb_not a b n = elim (cases_Bool (eqb a b)) [ inl t ↦ absurd (n (sym (eqb-true a b t))) | inr f ↦ f ]

eqb_self : (a : ℕ) → eqb a a ≡ true
eqb_self a = eq-eqb a a refl

put_here : (live : Live) (id : ℕ) (o : Option (List LitOf)) → put live id o id ≡ o
put_here live id o = rw (eqb_self id) refl

put_other : (live : Live) (id : ℕ) (o : Option (List LitOf)) (n : ℕ) → n ≢ id → put live id o n ≡ live n
put_other live id o n d = rw (eqb_not id n d) refl

names_here : (live : Live) (owner : ℕ → Place) (id : ℕ) (c : List LitOf) (p : Place) → Names (put live id (Some c)) (moved owner id p) id c p
names_here live owner id c p = (put_here live id (Some c), rw (eqb_self id) refl)

names_other : (live : Live) (owner : ℕ → Place) (id : ℕ) (o : Option (List LitOf)) (p : Place) (n : ℕ) (c : List LitOf) (q : Place) → n ≢ id → Names live owner n c q → Names (put live id o) (moved owner id p) n c q
names_other live owner id o p n c q d w = (put_other live id o n d ∙ w.0, rw (eqb_not id n d) w.1)

names_left : (live : Live) (owner : ℕ → Place) (id : ℕ) (n : ℕ) (c : List LitOf) (q : Place) → n ≢ id → Names live owner n c q → Names (put live id None) owner n c q
names_left live owner id n c q d w = (put_other live id None n d ∙ w.0, w.1)

names_moved : (live : Live) (owner : ℕ → Place) (id : ℕ) (p : Place) (n : ℕ) (c : List LitOf) (q : Place) → n ≢ id → Names live owner n c q → Names live (moved owner id p) n c q
names_moved live owner id p n c q d w = (w.0, rw (eqb_not id n d) w.1)

-- two places have two ids
apart : (owner : ℕ → Place) (m n : ℕ) (p q : Place) → owner m ≡ p → owner n ≡ q → p ≢ q → m ≢ n
apart owner m n p q a b d e = d (sym a ∙ ap owner e ∙ b)

-- a number that has a clause is one
slot_room : (slots : List (Option (List LitOf))) (k : ℕ) (c : List LitOf) → slot_at slots k ≡ Some c → k < length slots
slot_room slots k c e = elim (cases_lt k (length slots)) [
  | inl h ↦ h
  | inr h ↦ absurd (let f = get_or_past slots k None h in let g : None ≡ Some c = sym f ∙ e in cc)
]
  where
    cases_lt : (a b : ℕ) → (a < b) ⊎ (b ≤ a)
    cases_lt a b = grind arith

-- one more slot
pushed : (slots : List (Option (List LitOf))) (c d : List LitOf) (k : ℕ) → slot_at (slots ++ Some c ∷ []) k ≡ Some d → (slot_at slots k ≡ Some d) ⊎ ((k ≡ length slots) × (c ≡ d))
pushed slots c d k e = elim (cases_eq k (length slots)) [
  | inl q ↦ inr (q, let f = get_or_push slots (Some c) None k (sym q) in let g : Some c ≡ Some d = sym f ∙ e in cc)
  | inr n ↦ inl (let r = slot_room (slots ++ Some c ∷ []) k d e in sym (get_or_append_left slots (Some c ∷ []) None k (omega (arith, r, n, length-append slots (Some c ∷ [])))) ∙ e)
]

-- one slot less
taken : (slots : List (Option (List LitOf))) (k j : ℕ) (d : List LitOf) → slot_at (set slots k None) j ≡ Some d → (j ≢ k) × (slot_at slots j ≡ Some d)
taken slots k j d e = elim (cases_eq j k) [
  | inr n ↦ (n, sym (get_or-set_other slots k j None None n) ∙ e)
  | inl q ↦ absurd (
      let r = slot_room (set slots k None) j d e in
      let f : slot_at (set slots k None) k ≡ None = get_or-set_same slots k None None (omega (arith, r, q, length-set {A = Option (List LitOf)} slots k None)) in
      let g : None ≡ Some d = sym f ∙ subst (λ z. slot_at (set slots k None) z ≡ Some d) q e in cc)
]

id_first : (ids : List ℕ) (id n k : ℕ) → length ids ≡ n → k < n → id_at (ids ++ id ∷ []) k ≡ id_at ids k
id_first ids id n k e h = get_or_append_left ids (id ∷ []) 0 k (omega (arith, e, h))

watched_apart : (j k : ℕ) → j ≢ k → Watched j ≢ Watched k
watched_apart j k n e = n (cc)

frozen_apart : (j k : ℕ) → j ≢ k → Frozen j ≢ Frozen k
frozen_apart j k n e = n (cc)

watched_frozen : (j k : ℕ) → Watched j ≢ Frozen k
watched_frozen j k e = cc

watched_fact : (j : ℕ) (l : LitOf) → Watched j ≢ Fact l
watched_fact j l e = cc

frozen_fact : (j : ℕ) (l : LitOf) → Frozen j ≢ Fact l
frozen_fact j l e = cc

not_none : (c : List LitOf) → None ≢ Some c
not_none c e = cc

module _ (live : Live) (slots zs : List (Option (List LitOf))) (ids : IdsOf) (w : IsNamed live slots zs ids) where
  -- an id of a live clause is below each id that is above the highest
  below : (id n : ℕ) (c : List LitOf) → ids.last < id → live n ≡ Some c → n ≢ id
  below id n c h e q = let u = w.upto n c e in omega (arith, h, u, q)

  upto_put : (id last n : ℕ) (o : Option (List LitOf)) (c : List LitOf) → ids.last < id → last ≡ id → put live id o n ≡ Some c → n ≤ last
  upto_put id last n o c h e p = elim (cases_eq n id) [
    | inl q ↦ omega (arith, q, e)
    | inr d ↦ (let u = w.upto n c (sym (put_other live id o n d) ∙ p) in omega (arith, u, h, e))
  ]

  -- a clause comes under a new id
  pub named_push : (new : IdsOf) (id : ℕ) (c : List LitOf) → ids.last < id → new.last ≡ id → new.watched ≡ ids.watched ++ id ∷ [] → new.frozen ≡ ids.frozen → new.facts ≡ ids.facts → IsNamed (put live id (Some c)) (slots ++ Some c ∷ []) zs new
  named_push new id c h last e f g =
      let o = w.owner in
      let p = Watched (length slots) in
      record {
        owner = moved o id p;
        watched_sized = ap length e ∙ length-append ids.watched (id ∷ []) ∙ ap (λ z. z + 1) w.watched_sized ∙ sym (length-append slots (Some c ∷ []));
        frozen_sized = ap length f ∙ w.frozen_sized;
        watched = λ k d at. elim (pushed slots c d k at) [
          | inl old ↦
              let n = w.watched k d old in
              let r = slot_room slots k d old in
              let i = id_at ids.watched k in
              let same : id_at new.watched k ≡ i = ap (λ z. id_at z k) e ∙ id_first ids.watched id (length slots) k w.watched_sized r in
              subst (λ z. Names (put live id (Some c)) (moved o id p) z d (Watched k)) (sym same) (names_other live o id (Some c) p i d (Watched k) (below id i d h n.0) n)
          | inr q ↦
              let same : id_at new.watched k ≡ id = ap (λ z. id_at z k) e ∙ get_or_push ids.watched id 0 k (w.watched_sized ∙ sym q.0) in
              subst (λ z. Names (put live id (Some c)) (moved o id p) z d (Watched k)) (sym same) (subst (λ z. Names (put live id (Some c)) (moved o id p) id z (Watched k)) q.1 (subst (λ z. Names (put live id (Some c)) (moved o id p) id c (Watched z)) (sym q.0) (names_here live o id c p)))
        ];
        frozen = λ k d at. subst (λ z. Names (put live id (Some c)) (moved o id p) (id_at z k) d (Frozen k)) (sym f) (let n = w.frozen k d at in names_other live o id (Some c) p (id_at ids.frozen k) d (Frozen k) (below id (id_at ids.frozen k) d h n.0) n);
        facts = subst (λ z. (l : LitOf) → id_at z (index_of l) ≢ 0 → Names (put live id (Some c)) (moved o id p) (id_at z (index_of l)) (l ∷ []) (Fact l)) (sym g)
            (λ l s. let n = w.facts l s in names_other live o id (Some c) p (id_at ids.facts (index_of l)) (l ∷ []) (Fact l) (below id (id_at ids.facts (index_of l)) (l ∷ []) h n.0) n);
        upto = λ n d q. upto_put id new.last n (Some c) d h last q;
      }

  -- a fact comes
  pub named_fact : (new : IdsOf) (id : ℕ) (l : LitOf) → ids.last < id → new.last ≡ id → new.watched ≡ ids.watched → new.frozen ≡ ids.frozen → (new.facts ≡ ids.facts) ⊎ ((index_of l < length ids.facts) × (new.facts ≡ set ids.facts (index_of l) id))
      → IsNamed (put live id (Some (l ∷ []))) slots zs new
  named_fact new id l h last e f g =
      let o = w.owner in
      let p = Fact l in
      let c = l ∷ [] in
      let live' = put live id (Some c) in
      let o' = moved o id p in
      record {
        owner = o';
        watched_sized = ap length e ∙ w.watched_sized;
        frozen_sized = ap length f ∙ w.frozen_sized;
        watched = λ k d at. subst (λ z. Names live' o' (id_at z k) d (Watched k)) (sym e) (let n = w.watched k d at in names_other live o id (Some c) p (id_at ids.watched k) d (Watched k) (below id (id_at ids.watched k) d h n.0) n);
        frozen = λ k d at. subst (λ z. Names live' o' (id_at z k) d (Frozen k)) (sym f) (let n = w.frozen k d at in names_other live o id (Some c) p (id_at ids.frozen k) d (Frozen k) (below id (id_at ids.frozen k) d h n.0) n);
        facts = facts live' o' refl refl g;
        upto = λ n d q. upto_put id new.last n (Some c) d h last q;
      }
    where
      old : (m : LitOf) → id_at ids.facts (index_of m) ≢ 0 → Names (put live id (Some (l ∷ []))) (moved w.owner id (Fact l)) (id_at ids.facts (index_of m)) (m ∷ []) (Fact m)
      old m s = let n = w.facts m s in names_other live w.owner id (Some (l ∷ [])) (Fact l) (id_at ids.facts (index_of m)) (m ∷ []) (Fact m) (below id (id_at ids.facts (index_of m)) (m ∷ []) h n.0) n

      facts : (live' : Live) (o' : ℕ → Place) → live' ≡ put live id (Some (l ∷ [])) → o' ≡ moved w.owner id (Fact l) → (new.facts ≡ ids.facts) ⊎ ((index_of l < length ids.facts) × (new.facts ≡ set ids.facts (index_of l) id))
          → (m : LitOf) → id_at new.facts (index_of m) ≢ 0 → Names live' o' (id_at new.facts (index_of m)) (m ∷ []) (Fact m)
      facts live' o' q r (inl e) m s = rw (q, r) (subst (λ z. Names (put live id (Some (l ∷ []))) (moved w.owner id (Fact l)) (id_at z (index_of m)) (m ∷ []) (Fact m)) (sym e) (old m (subst (λ z. id_at z (index_of m) ≢ 0) e s)))
      facts live' o' q r (inr e) m s = rw (q, r) (elim (lit_cases m l) [
        | inl t ↦
            let here : id_at new.facts (index_of m) ≡ id = ap (λ z. id_at z (index_of m)) e.1 ∙ ap (λ z. id_at (set ids.facts (index_of l) id) (index_of z)) t ∙ get_or-set_same ids.facts (index_of l) id 0 e.0 in
            subst (λ z. Names (put live id (Some (l ∷ []))) (moved w.owner id (Fact l)) z (m ∷ []) (Fact m)) (sym here) (subst (λ z. Names (put live id (Some (l ∷ []))) (moved w.owner id (Fact l)) id (z ∷ []) (Fact z)) (sym t) (names_here live w.owner id (l ∷ []) (Fact l)))
        | inr n ↦
            let same : id_at new.facts (index_of m) ≡ id_at ids.facts (index_of m) = ap (λ z. id_at z (index_of m)) e.1 ∙ get_or-set_other ids.facts (index_of l) (index_of m) id 0 (λ x. n (index_of-injective m l x)) in
            subst (λ z. Names (put live id (Some (l ∷ []))) (moved w.owner id (Fact l)) z (m ∷ []) (Fact m)) (sym same) (old m (λ x. s (same ∙ x)))
      ])

  upto_less : (id n : ℕ) (c : List LitOf) → put live id None n ≡ Some c → n ≤ ids.last
  upto_less id n c p = elim (cases_eq n id) [
    | inl q ↦ absurd (not_none c (sym (put_here live id None) ∙ subst (λ z. put live id None z ≡ Some c) q p))
    | inr d ↦ w.upto n c (sym (put_other live id None n d) ∙ p)
  ]

  -- a watched clause is deleted
  pub named_delete : (k : ℕ) (c : List LitOf) → slot_at slots k ≡ Some c → IsNamed (put live (id_at ids.watched k) None) (set slots k None) zs ids
  named_delete k c at =
      let o = w.owner in
      let id = id_at ids.watched k in
      let here = w.watched k c at in
      record {
        owner = o;
        watched_sized = w.watched_sized ∙ sym (length-set {A = Option (List LitOf)} slots k None);
        frozen_sized = w.frozen_sized;
        watched = λ j d e. let t = taken slots k j d e in let n = w.watched j d t.1 in names_left live o id (id_at ids.watched j) d (Watched j) (apart o (id_at ids.watched j) id (Watched j) (Watched k) n.1 here.1 (watched_apart j k t.0)) n;
        frozen = λ j d e. let n = w.frozen j d e in names_left live o id (id_at ids.frozen j) d (Frozen j) (apart o (id_at ids.frozen j) id (Frozen j) (Watched k) n.1 here.1 (λ q. watched_frozen k j (sym q))) n;
        facts = λ l s. let n = w.facts l s in names_left live o id (id_at ids.facts (index_of l)) (l ∷ []) (Fact l) (apart o (id_at ids.facts (index_of l)) id (Fact l) (Watched k) n.1 here.1 (λ q. watched_fact k l (sym q))) n;
        upto = λ n d q. upto_less id n d q;
      }

  -- a frozen one is
  pub named_delete_frozen : (k : ℕ) (c : List LitOf) → slot_at zs k ≡ Some c → IsNamed (put live (id_at ids.frozen k) None) slots (set zs k None) ids
  named_delete_frozen k c at =
      let o = w.owner in
      let id = id_at ids.frozen k in
      let here = w.frozen k c at in
      record {
        owner = o;
        watched_sized = w.watched_sized;
        frozen_sized = w.frozen_sized ∙ sym (length-set {A = Option (List LitOf)} zs k None);
        watched = λ j d e. let n = w.watched j d e in names_left live o id (id_at ids.watched j) d (Watched j) (apart o (id_at ids.watched j) id (Watched j) (Frozen k) n.1 here.1 (watched_frozen j k)) n;
        frozen = λ j d e. let t = taken zs k j d e in let n = w.frozen j d t.1 in names_left live o id (id_at ids.frozen j) d (Frozen j) (apart o (id_at ids.frozen j) id (Frozen j) (Frozen k) n.1 here.1 (frozen_apart j k t.0)) n;
        facts = λ l s. let n = w.facts l s in names_left live o id (id_at ids.facts (index_of l)) (l ∷ []) (Fact l) (apart o (id_at ids.facts (index_of l)) id (Fact l) (Frozen k) n.1 here.1 (λ q. frozen_fact k l (sym q))) n;
        upto = λ n d q. upto_less id n d q;
      }

  -- a watched clause is frozen
  pub named_freeze : (new : IdsOf) (k : ℕ) (c : List LitOf) → slot_at slots k ≡ Some c → new.last ≡ ids.last → new.watched ≡ ids.watched → new.frozen ≡ ids.frozen ++ id_at ids.watched k ∷ [] → new.facts ≡ ids.facts → IsNamed live (set slots k None) (zs ++ Some c ∷ []) new
  named_freeze new k c at last e f g =
      let o = w.owner in
      let id = id_at ids.watched k in
      let here = w.watched k c at in
      let p = Frozen (length zs) in
      let o' = moved o id p in
      record {
        owner = o';
        watched_sized = ap length e ∙ w.watched_sized ∙ sym (length-set {A = Option (List LitOf)} slots k None);
        frozen_sized = ap length f ∙ length-append ids.frozen (id ∷ []) ∙ ap (λ z. z + 1) w.frozen_sized ∙ sym (length-append zs (Some c ∷ []));
        watched = λ j d x. subst (λ z. Names live o' (id_at z j) d (Watched j)) (sym e) (let t = taken slots k j d x in let n = w.watched j d t.1 in names_moved live o id p (id_at ids.watched j) d (Watched j) (apart o (id_at ids.watched j) id (Watched j) (Watched k) n.1 here.1 (watched_apart j k t.0)) n);
        frozen = λ j d x. elim (pushed zs c d j x) [
          | inl old ↦
              let n = w.frozen j d old in
              let r = slot_room zs j d old in
              let same : id_at new.frozen j ≡ id_at ids.frozen j = ap (λ z. id_at z j) f ∙ id_first ids.frozen id (length zs) j w.frozen_sized r in
              subst (λ z. Names live o' z d (Frozen j)) (sym same) (names_moved live o id p (id_at ids.frozen j) d (Frozen j) (apart o (id_at ids.frozen j) id (Frozen j) (Watched k) n.1 here.1 (λ q. watched_frozen k j (sym q))) n)
          | inr q ↦
              let same : id_at new.frozen j ≡ id = ap (λ z. id_at z j) f ∙ get_or_push ids.frozen id 0 j (w.frozen_sized ∙ sym q.0) in
              let there : Names live o' id c p = (here.0, rw (eqb_self id) refl) in
              subst (λ z. Names live o' z d (Frozen j)) (sym same) (subst (λ z. Names live o' id z (Frozen j)) q.1 (subst (λ z. Names live o' id c (Frozen z)) (sym q.0) there))
        ];
        facts = subst (λ z. (l : LitOf) → id_at z (index_of l) ≢ 0 → Names live o' (id_at z (index_of l)) (l ∷ []) (Fact l)) (sym g)
            (λ l s. let n = w.facts l s in names_moved live o id p (id_at ids.facts (index_of l)) (l ∷ []) (Fact l) (apart o (id_at ids.facts (index_of l)) id (Fact l) (Watched k) n.1 here.1 (λ q. watched_fact k l (sym q))) n);
        upto = λ n d q. subst (λ z. n ≤ z) (sym last) (w.upto n d q);
      }

  -- a frozen clause is watched
  pub named_thaw : (new : IdsOf) (k : ℕ) (c : List LitOf) → slot_at zs k ≡ Some c → new.last ≡ ids.last → new.frozen ≡ ids.frozen → new.watched ≡ ids.watched ++ id_at ids.frozen k ∷ [] → new.facts ≡ ids.facts → IsNamed live (slots ++ Some c ∷ []) (set zs k None) new
  named_thaw new k c at last e f g =
      let o = w.owner in
      let id = id_at ids.frozen k in
      let here = w.frozen k c at in
      let p = Watched (length slots) in
      let o' = moved o id p in
      record {
        owner = o';
        frozen_sized = ap length e ∙ w.frozen_sized ∙ sym (length-set {A = Option (List LitOf)} zs k None);
        watched_sized = ap length f ∙ length-append ids.watched (id ∷ []) ∙ ap (λ z. z + 1) w.watched_sized ∙ sym (length-append slots (Some c ∷ []));
        frozen = λ j d x. subst (λ z. Names live o' (id_at z j) d (Frozen j)) (sym e) (let t = taken zs k j d x in let n = w.frozen j d t.1 in names_moved live o id p (id_at ids.frozen j) d (Frozen j) (apart o (id_at ids.frozen j) id (Frozen j) (Frozen k) n.1 here.1 (frozen_apart j k t.0)) n);
        watched = λ j d x. elim (pushed slots c d j x) [
          | inl old ↦
              let n = w.watched j d old in
              let r = slot_room slots j d old in
              let same : id_at new.watched j ≡ id_at ids.watched j = ap (λ z. id_at z j) f ∙ id_first ids.watched id (length slots) j w.watched_sized r in
              subst (λ z. Names live o' z d (Watched j)) (sym same) (names_moved live o id p (id_at ids.watched j) d (Watched j) (apart o (id_at ids.watched j) id (Watched j) (Frozen k) n.1 here.1 (watched_frozen j k)) n)
          | inr q ↦
              let same : id_at new.watched j ≡ id = ap (λ z. id_at z j) f ∙ get_or_push ids.watched id 0 j (w.watched_sized ∙ sym q.0) in
              let there : Names live o' id c p = (here.0, rw (eqb_self id) refl) in
              subst (λ z. Names live o' z d (Watched j)) (sym same) (subst (λ z. Names live o' id z (Watched j)) q.1 (subst (λ z. Names live o' id c (Watched z)) (sym q.0) there))
        ];
        facts = subst (λ z. (l : LitOf) → id_at z (index_of l) ≢ 0 → Names live o' (id_at z (index_of l)) (l ∷ []) (Fact l)) (sym g)
            (λ l s. let n = w.facts l s in names_moved live o id p (id_at ids.facts (index_of l)) (l ∷ []) (Fact l) (apart o (id_at ids.facts (index_of l)) id (Fact l) (Frozen k) n.1 here.1 (λ q. frozen_fact k l (sym q))) n);
        upto = λ n d q. subst (λ z. n ≤ z) (sym last) (w.upto n d q);
      }

-- how many clauses are left before a number
abbrev rank : List (Option (List LitOf)) → ℕ → ℕ
rank slots k = length (clauses_of (take k slots))

pub kept_push : (ids : List ℕ) (n : ℕ) (ss : List (Option (List LitOf))) (s : Option (List LitOf)) → kept ids n (ss ++ s ∷ []) ≡ kept ids n ss ++ kept ids (n + length ss) (s ∷ [])
kept_push ids n [] s = ap (λ z. kept ids z (s ∷ [])) (omega arith)
kept_push ids n (Some c ∷ ss) s = ap (λ z. id_at ids n ∷ z) (kept_push ids (n + 1) ss s ∙ ap (λ z. kept ids (n + 1) ss ++ kept ids z (s ∷ [])) (omega arith))
kept_push ids n (None ∷ ss) s = kept_push ids (n + 1) ss s ∙ ap (λ z. kept ids (n + 1) ss ++ kept ids z (s ∷ [])) (omega arith)

-- the clause that a number has after that is one that another had before
pub selected : (ids : List ℕ) (n : ℕ) (slots : List (Option (List LitOf))) (j : ℕ) (c : List LitOf) → slot_at (present slots) j ≡ Some c → (k : ℕ) × (slot_at slots k ≡ Some c) × (id_at (kept ids n slots) j ≡ id_at ids (n + k)) × (rank slots k ≡ j)
selected ids n [] j c e = absurd (not_none c e)
selected ids n (None ∷ ss) j c e = let w = selected ids (n + 1) ss j c e in (suc w.0, w.1, w.2 ∙ ap (id_at ids) (omega arith), w.3)
selected ids n (Some d ∷ ss) zero c e = (0, e, ap (id_at ids) (omega arith), refl)
selected ids n (Some d ∷ ss) (suc j) c e = let w = selected ids (n + 1) ss j c e in (suc w.0, w.1, w.2 ∙ ap (id_at ids) (omega arith), ap suc w.3)

length-kept : (ids : List ℕ) (n : ℕ) (slots : List (Option (List LitOf))) → length (kept ids n slots) ≡ length (clauses_of slots)
length-kept ids n [] = refl
length-kept ids n (Some c ∷ ss) = ap suc (length-kept ids (n + 1) ss)
length-kept ids n (None ∷ ss) = length-kept ids (n + 1) ss

-- watched clauses get new numbers
abbrev watched_moved : List (Option (List LitOf)) → Place → Place
watched_moved slots (Watched k) = Watched (rank slots k)
watched_moved slots (Frozen k) = Frozen k
watched_moved slots (Fact l) = Fact l

abbrev frozen_moved : List (Option (List LitOf)) → Place → Place
frozen_moved zs (Watched k) = Watched k
frozen_moved zs (Frozen k) = Frozen (rank zs k)
frozen_moved zs (Fact l) = Fact l

some_list : List LitOf → Option (List LitOf)
some_list c = Some c

module _ (live : Live) (slots zs : List (Option (List LitOf))) (ids : IdsOf) (w : IsNamed live slots zs ids) (new : IdsOf) (last : new.last ≡ ids.last) (g : new.facts ≡ ids.facts) where
  pub named_collect : new.watched ≡ kept ids.watched 0 slots → new.frozen ≡ ids.frozen → IsNamed live (present slots) zs new
  named_collect e f =
      let o' : ℕ → Place = λ n. watched_moved slots (w.owner n) in
      record {
        owner = o';
        watched_sized = ap length e ∙ length-kept ids.watched 0 slots ∙ sym (length-map (clauses_of slots) (λ (c : List LitOf). Some c));
        frozen_sized = ap length f ∙ w.frozen_sized;
        watched = λ j d x.
            let s = selected ids.watched 0 slots j d x in
            let n = w.watched s.0 d s.1 in
            let same : id_at new.watched j ≡ id_at ids.watched s.0 = ap (λ z. id_at z j) e ∙ s.2 ∙ ap (id_at ids.watched) (omega arith) in
            subst (λ z. Names live o' z d (Watched j)) (sym same) (n.0, ap (watched_moved slots) n.1 ∙ ap Watched s.3);
        frozen = λ j d x. subst (λ z. Names live o' (id_at z j) d (Frozen j)) (sym f) (let n = w.frozen j d x in (n.0, ap (watched_moved slots) n.1));
        facts = subst (λ z. (l : LitOf) → id_at z (index_of l) ≢ 0 → Names live o' (id_at z (index_of l)) (l ∷ []) (Fact l)) (sym g) (λ l s. let n = w.facts l s in (n.0, ap (watched_moved slots) n.1));
        upto = λ n d q. subst (λ z. n ≤ z) (sym last) (w.upto n d q);
      }

  pub named_collect_frozen : new.watched ≡ ids.watched → new.frozen ≡ kept ids.frozen 0 zs → IsNamed live slots (present zs) new
  named_collect_frozen f e =
      let o' : ℕ → Place = λ n. frozen_moved zs (w.owner n) in
      record {
        owner = o';
        frozen_sized = ap length e ∙ length-kept ids.frozen 0 zs ∙ sym (length-map (clauses_of zs) (λ (c : List LitOf). Some c));
        watched_sized = ap length f ∙ w.watched_sized;
        frozen = λ j d x.
            let s = selected ids.frozen 0 zs j d x in
            let n = w.frozen s.0 d s.1 in
            let same : id_at new.frozen j ≡ id_at ids.frozen s.0 = ap (λ z. id_at z j) e ∙ s.2 ∙ ap (id_at ids.frozen) (omega arith) in
            subst (λ z. Names live o' z d (Frozen j)) (sym same) (n.0, ap (frozen_moved zs) n.1 ∙ ap Frozen s.3);
        watched = λ j d x. subst (λ z. Names live o' (id_at z j) d (Watched j)) (sym f) (let n = w.watched j d x in (n.0, ap (frozen_moved zs) n.1));
        facts = subst (λ z. (l : LitOf) → id_at z (index_of l) ≢ 0 → Names live o' (id_at z (index_of l)) (l ∷ []) (Fact l)) (sym g) (λ l s. let n = w.facts l s in (n.0, ap (frozen_moved zs) n.1));
        upto = λ n d q. subst (λ z. n ≤ z) (sym last) (w.upto n d q);
      }

-- the clauses of a formula have the ids from 1
first_clause : (F : List (List LitOf)) (k : ℕ) (c : List LitOf) → slot_at (map Some F) k ≡ Some c → numbered F (suc k) ≡ Some c
first_clause [] k c e = absurd (not_none c e)
first_clause (d ∷ F) zero c e = e
first_clause (d ∷ F) (suc k) c e = first_clause F k c e

upto_first : (F : List (List LitOf)) (n : ℕ) (c : List LitOf) → numbered F n ≡ Some c → n ≤ length F
upto_first F zero c e = omega arith
upto_first [] (suc n) c e = absurd (not_none c e)
upto_first (d ∷ F) (suc zero) c e = omega arith
upto_first (d ∷ F) (suc (suc n)) c e = (let h = upto_first F (suc n) c e in omega (arith, h))

pub named_first : (F : List (List LitOf)) (ids : IdsOf) → length ids.watched ≡ length F → ((k : ℕ) → k < length F → id_at ids.watched k ≡ k + 1) → ids.frozen ≡ [] → ((i : ℕ) → id_at ids.facts i ≡ 0) → ids.last ≡ length F
    → IsNamed (numbered F) (map Some F) [] ids
named_first F ids sized each none zeros last = record {
  owner = λ n. Watched (n - 1);
  watched_sized = sized ∙ sym (length-map F (λ (c : List LitOf). Some c));
  frozen_sized = ap length none;
  watched = λ k c e.
      let r = slot_room (map Some F) k c e in
      let same : id_at ids.watched k ≡ suc k = each k (omega (arith, r, length-map F (λ (c : List LitOf). Some c))) ∙ add-one k in
      (ap (numbered F) same ∙ first_clause F k c e, ap (λ z. Watched (z - 1)) same ∙ ap Watched (omega arith));
  frozen = λ k c e. absurd (not_none c e);
  facts = λ l s. absurd (s (zeros (index_of l)));
  upto = λ n c e. subst (λ z. n ≤ z) (sym last) (upto_first F n c e);
}

pub kept_step : (ids : List ℕ) (slots : List (Option (List LitOf))) (k : ℕ) → k < length slots → kept ids 0 (take (k + 1) slots) ≡ kept ids 0 (take k slots) ++ kept ids k (slot_at slots k ∷ [])
kept_step ids slots k h =
    let x = slot_at slots k in
    ap (kept ids 0) (take_one_more slots k x h (get_or_default slots k None x h)) ∙ kept_push ids 0 (take k slots) x ∙ ap (λ z. kept ids 0 (take k slots) ++ kept ids z (x ∷ [])) (let e = length-take-le k slots (omega (arith, h)) in omega (arith, e))

pub zeros_at : (n i : ℕ) → id_at (replicate n 0) i ≡ 0
zeros_at zero i = refl
zeros_at (suc n) zero = refl
zeros_at (suc n) (suc i) = zeros_at n i
