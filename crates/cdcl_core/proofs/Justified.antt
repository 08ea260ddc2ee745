-- Levels that open, grow and are taken back.
use Rattle.std.proofs.Common.{◌≡◌, ℕ, ◌+◌, ◌-◌, ◌<◌, ◌≤◌, true, false, List, [], ◌∷◌, ◌++◌, length, get_or, take, map, refl, sym, ◌∙◌, ap, subst, inl, inr, arith, append_assoc}
use Rattle.std.specs.Prelude.{Contains, Option, Some, None}
use Rattle.std.proofs.lemmas.Bool.{cases_eq, cases_lt, cases_Bool}
use Rattle.std.proofs.lemmas.List.{take-append-le, take_all, take_at, take-take, length-take, length-append, length_push, get_or-take, get_or_append_left, get_or_push, get_or_default, get_or_past}
use Rattle.std.proofs.lemmas.List.Elements.{Contains-append_left, Contains-append_right, Contains-append_cases, Contains-push_cases, All-contains}
use Rattle.cnf_form.specs.Cnf.{LitOf, negate, LitWithin, ClauseWithin, Closure, propagated}
use Rattle.cnf_form.proofs.Members.{Contains-empty, Contains-one, Contains-head, Contains-map, Contains-map_from}
use Rattle.unit_propagation.specs.Propagation.{ContainsAll, IsDerived, HasFalsified, Propagates}
use Rattle.unit_propagation.specs.Propagator.{PropagatorOf, clauses_of, IsAdded, IsDecided, EndsDecided}
use Rattle.cdcl_core.specs.Levels.{Follows, end_of, IsJustified, IsPending}
use Rattle.cdcl_core.proofs.Marks.{of_prefix}

-- the clauses with one more
pub clauses_push : (slots : List (Option (List LitOf))) (c : List LitOf) → clauses_of (slots ++ Some c ∷ []) ≡ clauses_of slots ++ c ∷ []
clauses_push [] c = refl
clauses_push (Some d ∷ ss) c = ap (λ z. d ∷ z) (clauses_push ss c)
clauses_push (None ∷ ss) c = clauses_push ss c

pub all_push : (F : List (List LitOf)) (c : List LitOf) → ContainsAll F (F ++ c ∷ [])
all_push F c = record { each = λ d h. Contains-append_left F (c ∷ []) d h }

-- what is derived from clauses over the variables is of the variables
closure_within : (vars : ℕ) (G : List (List LitOf)) (l : LitOf) → ((c : List LitOf) → Contains G c → (m : LitOf) → Contains c m → LitWithin vars m) → Closure G l → LitWithin vars l
closure_within vars G l w (propagated c l' h k o) = w c h l' k

pub propagates_within : (vars : ℕ) (F : List (List LitOf)) (s t : List LitOf) → ((c : List LitOf) → Contains F c → ClauseWithin vars c) → ((l : LitOf) → Contains s l → LitWithin vars l) → Propagates F s t
    → (l : LitOf) → Contains t l → LitWithin vars l
propagates_within vars F s t clauses lits p l h =
    let unit : LitOf → List LitOf = λ x. x ∷ [] in
    let G = F ++ map unit s in
    let d : IsDerived G s = record {
      each = λ x k. propagated (x ∷ []) x (Contains-append_right F (map unit s) _ (Contains-map unit x s k)) (Contains-head x []) (λ m i n. absurd (n (sym (Contains-one x m i))));
    } in
    let e = p.derived G (record { each = λ c k. Contains-append_left F (map unit s) c k }) d in
    closure_within vars G l (λ c k m i. elim (Contains-append_cases F (map unit s) c k) [
      | inl q ↦ All-contains (LitWithin vars) c m (clauses c q) i
      | inr q ↦ let w = Contains-map_from unit c s q in subst (LitWithin vars) (Contains-one w.0 m (subst (λ z. Contains z m) (sym w.2) i)) (lits w.0 w.1)
    ]) (e.each l h)

-- an end that a later level marks
pub end_inside : (limits : List ℕ) (i a b : ℕ) → i < length limits → get_or limits i a ≡ get_or limits i b
end_inside limits i a b h = get_or_default limits i a b h

pub end_past : (limits : List ℕ) (i a : ℕ) → length limits ≤ i → get_or limits i a ≡ a
end_past limits i a h = get_or_past limits i a h

module _ (p : PropagatorOf) (v : IsJustified p) (fits : (n : ℕ) → Contains p.limits n → n ≤ length p.trail) where
  -- an end is on the trail
  pub end_low : (i : ℕ) → end_of p i ≤ length p.trail
  end_low i = elim (cases_lt i (length p.limits)) [
    | inl h ↦ fits (end_of p i) (i, h, end_inside p.limits i (end_of p i) (length p.trail) h)
    | inr h ↦ omega (arith, end_past p.limits i (length p.trail) h)
  ]

  pub justified_decided : (q : PropagatorOf) (l : LitOf) → IsDecided p l q → ((c : List LitOf) → Contains (clauses_of p.slots) c → ClauseWithin p.vars c) → LitWithin p.vars l → IsJustified q
  justified_decided q l d clauses lit =
      let F = clauses_of p.slots in
      let L = length p.limits in
      let g = d.propagated in
      let rest = l ∷ [] ++ g.added in
      let long : q.trail ≡ p.trail ++ rest = g.grown ∙ append_assoc p.trail (l ∷ []) g.added in
      let size : length q.trail ≡ length p.trail + 1 + length g.added = ap length g.grown ∙ length-append (p.trail ++ l ∷ []) g.added ∙ ap (λ z. z + length g.added) (length_push p.trail l) in
      let count : length q.limits ≡ L + 1 = ap length d.limits ∙ length_push p.limits (length p.trail) in
      let low : (i : ℕ) → i ≤ L → end_of q i ≡ end_of p i = λ i h. elim (cases_eq i L) [
        | inr ne ↦ let lt : i < L = omega (arith, h, ne) in
            ap (λ z. get_or z i (length q.trail)) d.limits ∙ get_or_append_left p.limits (length p.trail ∷ []) (length q.trail) i lt ∙ end_inside p.limits i (length q.trail) (length p.trail) lt
        | inl e ↦ ap (λ z. get_or z i (length q.trail)) d.limits ∙ get_or_push p.limits (length p.trail) (length q.trail) i (sym e) ∙ sym (end_past p.limits i (length p.trail) (omega (arith, e)))
      ] in
      let last : end_of q (L + 1) ≡ length q.trail = end_past q.limits (L + 1) (length q.trail) (omega (arith, count)) in
      let cut : (n : ℕ) → n ≤ length p.trail → take n q.trail ≡ take n p.trail = λ n h. ap (take n) long ∙ take-append-le n p.trail rest h in
      let top : end_of p L ≡ length p.trail = end_past p.limits L (length p.trail) (omega arith) in
      record {
        root = subst (λ z. Follows (clauses_of z) [] (take (end_of q 0) q.trail)) (sym d.slots) (subst (Follows F []) (sym (ap (λ z. take z q.trail) (low 0 (omega arith)) ∙ cut (end_of p 0) (end_low 0))) v.root);
        level = λ i h. elim (cases_eq i L) [
          | inr ne ↦
              let lt : i < L = omega (arith, h, count, ne) in
              let a : take (end_of q i + 1) q.trail ≡ take (end_of p i + 1) p.trail = ap (λ z. take (z + 1) q.trail) (low i (omega (arith, lt))) ∙ cut (end_of p i + 1) (omega (arith, v.strict i lt, end_low (i + 1))) in
              let b : take (end_of q (i + 1)) q.trail ≡ take (end_of p (i + 1)) p.trail = ap (λ z. take z q.trail) (low (i + 1) (omega (arith, lt))) ∙ cut (end_of p (i + 1)) (end_low (i + 1)) in
              subst (λ z. Follows (clauses_of z) (take (end_of q i + 1) q.trail) (take (end_of q (i + 1)) q.trail)) (sym d.slots)
              (subst (λ z. Follows F z (take (end_of q (i + 1)) q.trail)) (sym a) (subst (Follows F (take (end_of p i + 1) p.trail)) (sym b) (v.level i lt)))
          | inl e ↦
              let a : take (end_of q i + 1) q.trail ≡ p.trail ++ l ∷ [] =
              ap (λ z. take (z + 1) q.trail) (low i (omega (arith, e)) ∙ ap (end_of p) e ∙ top) ∙ ap (take (length p.trail + 1)) g.grown ∙ take_at (p.trail ++ l ∷ []) g.added (length p.trail + 1) (length_push p.trail l) in
              let b : take (end_of q (i + 1)) q.trail ≡ q.trail = ap (λ z. take (end_of q (z + 1)) q.trail) e ∙ take_all (end_of q (L + 1)) q.trail (omega (arith, last)) in
              subst (λ z. Follows (clauses_of z) (take (end_of q i + 1) q.trail) (take (end_of q (i + 1)) q.trail)) (sym d.slots)
              (subst (λ z. Follows F z (take (end_of q (i + 1)) q.trail)) (sym a) (subst (Follows F (p.trail ++ l ∷ [])) (sym b) (record { derived = g.derived })))
        ];
        strict = λ i h. elim (cases_eq i L) [
          | inr ne ↦ let lt : i < L = omega (arith, h, count, ne) in omega (arith, v.strict i lt, low i (omega (arith, lt)), low (i + 1) (omega (arith, lt)))
          | inl e ↦ omega (arith, low i (omega (arith, e)), ap (end_of p) e, top, ap (λ z. end_of q (z + 1)) e, last, size)
        ];
        within = λ x h. subst (λ z. LitWithin z x) (sym d.vars) (propagates_within p.vars F (p.trail ++ l ∷ []) q.trail clauses
            (λ y k. elim (Contains-push_cases p.trail l y k) [ inl i ↦ v.within y i | inr e ↦ subst (LitWithin p.vars) e lit ]) g x h);
      }

  -- a clause was added, and the trail grew by what follows
  pub justified_added : (q : PropagatorOf) (c : List LitOf) → p.conflict ≡ false → IsAdded p c q → ((d : List LitOf) → Contains (clauses_of q.slots) d → ClauseWithin p.vars d) → IsJustified q
  justified_added q c free d clauses =
      let F = clauses_of p.slots in
      let F' = clauses_of q.slots in
      let L = length p.limits in
      let g = d.propagated free in
      let more : ContainsAll F F' = subst (ContainsAll F) (sym (ap clauses_of d.slots ∙ clauses_push p.slots c)) (all_push F c) in
      let size : length q.trail ≡ length p.trail + length g.added = ap length g.grown ∙ length-append p.trail g.added in
      let low : (i : ℕ) → i < L → end_of q i ≡ end_of p i = λ i h. ap (λ z. get_or z i (length q.trail)) d.limits ∙ end_inside p.limits i (length q.trail) (length p.trail) h in
      let last : end_of q L ≡ length q.trail = ap (λ z. get_or z L (length q.trail)) d.limits ∙ end_past p.limits L (length q.trail) (omega arith) in
      let cut : (n : ℕ) → n ≤ length p.trail → take n q.trail ≡ take n p.trail = λ n h. ap (take n) g.grown ∙ take-append-le n p.trail g.added h in
      let top : end_of p L ≡ length p.trail = end_past p.limits L (length p.trail) (omega arith) in
      let upto : (i : ℕ) → i ≤ L → (s : List LitOf) → Follows F s (take (end_of p i) p.trail) → Follows F' s (take (end_of q i) q.trail) = λ i h s f. elim (cases_eq i L) [
        | inr ne ↦ let lt : i < L = omega (arith, h, ne) in
            subst (Follows F' s) (sym (ap (λ z. take z q.trail) (low i lt) ∙ cut (end_of p i) (end_low i))) (record { derived = λ G all e. f.derived G (record { each = λ x k. all.each x (more.each x k) }) e })
        | inl e ↦
            let whole : take (end_of q i) q.trail ≡ q.trail = ap (λ z. take (end_of q z) q.trail) e ∙ take_all (end_of q L) q.trail (omega (arith, last)) in
            let old : take (end_of p i) p.trail ≡ p.trail = ap (λ z. take (end_of p z) p.trail) e ∙ take_all (end_of p L) p.trail (omega (arith, top)) in
            subst (Follows F' s) (sym whole) (record { derived = λ G all x. g.derived G all (subst (IsDerived G) old (f.derived G (record { each = λ y k. all.each y (more.each y k) }) x)) })
      ] in
      record {
        root = upto 0 (omega arith) [] v.root;
        level = λ i h.
            let lt : i < L = omega (arith, h, ap length d.limits) in
            let a : take (end_of q i + 1) q.trail ≡ take (end_of p i + 1) p.trail = ap (λ z. take (z + 1) q.trail) (low i lt) ∙ cut (end_of p i + 1) (omega (arith, v.strict i lt, end_low (i + 1))) in
            subst (λ z. Follows F' z (take (end_of q (i + 1)) q.trail)) (sym a) (upto (i + 1) (omega (arith, lt)) (take (end_of p i + 1) p.trail) (v.level i lt));
        strict = λ i h.
            let lt : i < L = omega (arith, h, ap length d.limits) in
            elim (cases_eq (i + 1) L) [
              | inr ne ↦ omega (arith, v.strict i lt, low i lt, low (i + 1) (omega (arith, lt, ne)))
              | inl e ↦ omega (arith, v.strict i lt, low i lt, ap (end_of q) e, last, ap (end_of p) e, top, size)
            ];
        within = λ x h. subst (λ z. LitWithin z x) (sym d.vars) (propagates_within p.vars F' p.trail q.trail clauses v.within g x h);
      }

  -- levels are taken back
  pub justified_undone : (q : PropagatorOf) (level : ℕ) → level < length p.limits → ((i j : ℕ) → i ≤ j → j < length p.limits → get_or p.limits i 0 ≤ get_or p.limits j 0)
      → q ≡ record p { trail = take (get_or p.limits level 0) p.trail; limits = take level p.limits; conflict = false } → IsJustified q
  justified_undone q level room rising is =
      let F = clauses_of p.slots in
      let lim = get_or p.limits level 0 in
      let trail : q.trail ≡ take lim p.trail = ap (λ (z : PropagatorOf). z.trail) is in
      let limits : q.limits ≡ take level p.limits = ap (λ (z : PropagatorOf). z.limits) is in
      let slots : q.slots ≡ p.slots = ap (λ (z : PropagatorOf). z.slots) is in
      let vars : q.vars ≡ p.vars = ap (λ (z : PropagatorOf). z.vars) is in
      let at : end_of p level ≡ lim = end_inside p.limits level (length p.trail) 0 room in
      let size : length q.trail ≡ lim = ap length trail ∙ (let s = length-take lim p.trail in let e = end_low level in omega (arith, s, e, at)) in
      let count : length q.limits ≡ level = ap length limits ∙ (let s = length-take level p.limits in omega (arith, s, room)) in
      let low : (i : ℕ) → i ≤ level → end_of q i ≡ end_of p i = λ i h. elim (cases_eq i level) [
        | inr ne ↦ let lt : i < level = omega (arith, h, ne) in
            ap (λ z. get_or z i (length q.trail)) limits ∙ get_or-take level p.limits i (length q.trail) lt ∙ end_inside p.limits i (length q.trail) (length p.trail) (omega (arith, lt, room))
        | inl e ↦ end_past q.limits i (length q.trail) (omega (arith, count, e)) ∙ size ∙ sym at ∙ sym (ap (end_of p) e)
      ] in
      let under : (i : ℕ) → i ≤ level → end_of p i ≤ lim = λ i h.
      let r = rising i level h room in let e = end_inside p.limits i (length p.trail) 0 (omega (arith, h, room)) in omega (arith, r, e) in
      let cut : (n : ℕ) → n ≤ lim → take n q.trail ≡ take n p.trail = λ n h. ap (take n) trail ∙ take-take n lim p.trail h in
      record {
        root = subst (λ z. Follows (clauses_of z) [] (take (end_of q 0) q.trail)) (sym slots) (subst (Follows F []) (sym (ap (λ z. take z q.trail) (low 0 (omega arith)) ∙ cut (end_of p 0) (under 0 (omega arith)))) v.root);
        level = λ i h.
            let lt : i < level = omega (arith, h, count) in
            let a : take (end_of q i + 1) q.trail ≡ take (end_of p i + 1) p.trail = ap (λ z. take (z + 1) q.trail) (low i (omega (arith, lt))) ∙ cut (end_of p i + 1) (omega (arith, v.strict i (omega (arith, lt, room)), under (i + 1) (omega (arith, lt)))) in
            let b : take (end_of q (i + 1)) q.trail ≡ take (end_of p (i + 1)) p.trail = ap (λ z. take z q.trail) (low (i + 1) (omega (arith, lt))) ∙ cut (end_of p (i + 1)) (under (i + 1) (omega (arith, lt))) in
            subst (λ z. Follows (clauses_of z) (take (end_of q i + 1) q.trail) (take (end_of q (i + 1)) q.trail)) (sym slots)
            (subst (λ z. Follows F z (take (end_of q (i + 1)) q.trail)) (sym a) (subst (Follows F (take (end_of p i + 1) p.trail)) (sym b) (v.level i (omega (arith, lt, room)))));
        strict = λ i h.
            let lt : i < level = omega (arith, h, count) in
            omega (arith, v.strict i (omega (arith, lt, room)), low i (omega (arith, lt)), low (i + 1) (omega (arith, lt)));
        within = λ x h. subst (λ z. LitWithin z x) (sym vars) (v.within x (of_prefix p.trail lim x (subst (λ z. Contains z x) trail h)));
      }

-- what is known of a falsified clause after a decision or a learnt clause
pub pending_of : (q : PropagatorOf) (o : Option ℕ) → EndsDecided q o → IsPending q o
pending_of q None e = inl e
pending_of q (Some k) e = e

pub pending_added : (p q : PropagatorOf) (c : List LitOf) → IsAdded p c q → p.conflict ≡ false → p.limits ≡ [] → IsPending q None
pending_added p q c d free none = elim (cases_Bool q.conflict) [
  | inl t ↦ inr (t, d.limits ∙ none, d.falsified free t)
  | inr f ↦ inl f
]

-- a clause was added after a conflict at level 0, where nothing follows any more
module _ (p : PropagatorOf) (v : IsJustified p) (q : PropagatorOf) (c : List LitOf) (t : p.conflict ≡ true) (d : IsAdded p c q) where
  more_after : ContainsAll (clauses_of p.slots) (clauses_of q.slots)
  more_after = subst (ContainsAll (clauses_of p.slots)) (sym (ap clauses_of d.slots ∙ clauses_push p.slots c)) (all_push (clauses_of p.slots) c)

  follows_after : (s u : List LitOf) → Follows (clauses_of p.slots) s u → Follows (clauses_of q.slots) s u
  follows_after s u f = record { derived = λ G all e. f.derived G (record { each = λ x k. all.each x (more_after.each x k) }) e }

  pub justified_after : IsJustified q
  justified_after =
      let a = d.after t in
      let ends : (i : ℕ) → end_of q i ≡ end_of p i = λ i. ap (λ z. get_or z i (length q.trail)) d.limits ∙ ap (λ z. get_or p.limits i (length z)) a.0 in
      let cut : (i n : ℕ) → take (end_of q i + n) q.trail ≡ take (end_of p i + n) p.trail = λ i n. ap (λ z. take (z + n) q.trail) (ends i) ∙ ap (take (end_of p i + n)) a.0 in
      let whole : (i : ℕ) → take (end_of q i) q.trail ≡ take (end_of p i) p.trail = λ i. ap (λ z. take z q.trail) (ends i) ∙ ap (take (end_of p i)) a.0 in
      record {
        root = subst (Follows (clauses_of q.slots) []) (sym (whole 0)) (follows_after [] _ v.root);
        level = λ i h.
            let lt : i < length p.limits = omega (arith, h, ap length d.limits) in
            subst (λ z. Follows (clauses_of q.slots) z (take (end_of q (i + 1)) q.trail)) (sym (cut i 1))
            (subst (Follows (clauses_of q.slots) (take (end_of p i + 1) p.trail)) (sym (whole (i + 1))) (follows_after _ _ (v.level i lt)));
        strict = λ i h. let lt : i < length p.limits = omega (arith, h, ap length d.limits) in omega (arith, v.strict i lt, ends i, ends (i + 1));
        within = λ l h. subst (λ z. LitWithin z l) (sym d.vars) (v.within l (subst (λ z. Contains z l) a.0 h));
      }

  pub pending_after : p.limits ≡ [] → HasFalsified p.trail (clauses_of p.slots) → IsPending q None
  pending_after none w =
      let a = d.after t in
      let f = w.2 in
      inr (a.1, d.limits ∙ none, (w.0, more_after.each w.0 w.1, record { each = λ l h. subst (λ z. Contains z (negate l)) (sym a.0) (f.each l h) }))

-- a list of no length
pub no_element : {X : Type 0} (xs : List X) → length xs ≡ 0 → xs ≡ []
no_element [] h = refl
no_element (x ∷ xs) h = absurd (omega arith)

-- nothing is true yet
pub justified_empty : (p : PropagatorOf) → p.trail ≡ [] → p.limits ≡ [] → IsJustified p
justified_empty p t l = record {
  root = record { derived = λ G all e. record { each = λ x k. absurd (Contains-empty x (subst (λ z. Contains z x) t (of_prefix p.trail (end_of p 0) x k))) } };
  level = λ i h. absurd (omega (arith, h, ap length l));
  strict = λ i h. absurd (omega (arith, h, ap length l));
  within = λ x k. absurd (Contains-empty x (subst (λ z. Contains z x) t k));
}

-- where the last level begins, read with any default
pub last_limit : (limits : List ℕ) → 0 < length limits → get_or limits (length limits - 1) (get_or limits (length limits - 1) 0) ≡ get_or limits (length limits - 1) 0
last_limit limits h = get_or_default limits (length limits - 1) (get_or limits (length limits - 1) 0) 0 (omega (arith, h))
