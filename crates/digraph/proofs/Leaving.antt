-- The path's last node is left: it stays open, or its component is done.
use Rattle.std.proofs.Common.{◌≡◌, ◌⊎◌, ℕ, zero, suc, ◌+◌, ◌<◌, ◌≤◌, Bool, true, false, List, [], ◌∷◌, ◌++◌, Some, sym, ap, ◌∙◌, subst, inl, inr, arith, length}
use Rattle.std.proofs.lemmas.Bool.{cases_lt}
use Rattle.std.specs.Prelude.{slice_get}
use Rattle.digraph.specs.Graph.{Graph, HasEdge, Reaches, Walk, IsOnCycle}
use Rattle.digraph.specs.Search.{State, IsDone, IsPassed, NoBound, Closing}
use Rattle.digraph.specs.declared.search.Mark.{Mark}
use Rattle.digraph.specs.declared.search.Mark.TheVariants.{Open, Done}
use Rattle.digraph.proofs.Lists.{get-push-old, get-push-new, get-push-either, get-below, get-at, one-at, reaches-itself, cycle-from_both}
use Rattle.digraph.proofs.Scanning.{same-open, bound-most}

same-done : (i j : ℕ) → Some (Done i) ≡ Some (Done j) → i ≡ j
same-done i j e = cc

open-done : (i j : ℕ) → Some (Open i) ≡ Some (Done j) → ⊥
open-done i j e = cc

module _ (g : Graph) (marks : List Mark) (cursors stack bounds front order : List ℕ) (cyclic : List Bool) (last : ℕ)
    (s : State g marks cursors stack bounds (front ++ last ∷ []) order cyclic) (t : ℕ) (at : slice_get marks last ≡ Some (Open t))
    (looked_at : (b : ℕ) → HasEdge g last b → IsPassed marks bounds t b) where
  pub some-bound : 0 < length bounds
  some-bound = let c = s.covered t last (s.opened last t at) in let lt = get-below bounds c.0 c.1 c.2 in omega arith

  -- where the last component doesn't begin at the node, none does
  pub begins-none : (n y : ℕ) → suc n ≡ length bounds → slice_get bounds n ≡ Some y → (y ≡ t → ⊥) → (j : ℕ) → slice_get bounds j ≡ Some t → ⊥
  begins-none n y top h other j i = elim (cases_lt j n) as (λ _. ⊥) [
    | inl before ↦ let lt : t < y = s.rising j n t y before i h in let le : y ≤ t = bound-most g marks cursors stack bounds front order cyclic last s t at n y h in absurd (omega arith)
    | inr behind ↦
        let lt = get-below bounds j t i in
        let e : j ≡ n = omega arith in
        other (sym (one-at bounds n t y (subst (λ (x : ℕ). slice_get bounds x ≡ Some t) e i) h))
  ]

  pub State-leave : ((j : ℕ) → slice_get bounds j ≡ Some t → ⊥) → State g marks cursors stack bounds front order cyclic
  State-leave none = record {
    marks_size = s.marks_size;
    cursors_size = s.cursors_size;
    cyclic_size = s.cyclic_size;
    opened = s.opened;
    stacked = s.stacked;
    finished = s.finished;
    ordered = s.ordered;
    fresh = s.fresh;
    bounded = λ j x h.
        let b = s.bounded j x h in
        elim (get-push-either front last b.0 b.1 b.3) as (λ _. (a : ℕ) × (k : ℕ) × (slice_get stack x ≡ Some a) × (slice_get front k ≡ Some a)) [
          | inl before ↦ (b.0, b.1, b.2, before)
          | inr here ↦
              let e : x ≡ t = same-open x t (sym (s.stacked x b.0 b.2) ∙ (ap (λ (y : ℕ). slice_get marks y) here.1 ∙ at)) in
              absurd (none j (subst (λ (y : ℕ). slice_get bounds j ≡ Some y) e h))
        ];
    rising = s.rising;
    covered = s.covered;
    on_path = λ k a h. s.on_path k a (get-push-old front last a k h);
    path_rises = λ k l a b p q lt h i. s.path_rises k l a b p q lt (get-push-old front last a k h) (get-push-old front last b l i);
    forward = s.forward;
    back = s.back;
    scanned = s.scanned;
    awaits = λ a p h. elim (s.awaits a p h) as (λ _. ((k : ℕ) × (slice_get front k ≡ Some a)) ⊎ ((b : ℕ) → HasEdge g a b → IsPassed marks bounds p b)) [
      | inr all ↦ inr all
      | inl here ↦ elim (get-push-either front last a here.0 here.1) as (λ _. ((k : ℕ) × (slice_get front k ≡ Some a)) ⊎ ((b : ℕ) → HasEdge g a b → IsPassed marks bounds p b)) [
        | inl before ↦ inl (here.0, before)
        | inr end ↦ inr (λ b e.
            let ep : p ≡ t = same-open p t (sym h ∙ (ap (λ (y : ℕ). slice_get marks y) end.1 ∙ at)) in
            subst (λ (x : ℕ). IsPassed marks bounds x b) (sym ep) (looked_at b (subst (λ (x : ℕ). HasEdge g x b) end.1 e)))
      ]
    ];
    closed = s.closed;
    earlier = s.earlier;
    on_cycle = s.on_cycle;
    on_none = s.on_none;
  }

  -- an open node at the last node's place or above was looked at
  all-passed : (a p b : ℕ) → t ≤ p → slice_get marks a ≡ Some (Open p) → HasEdge g a b → IsPassed marks bounds p b
  all-passed a p b le h e = elim (s.awaits a p h) as (λ _. IsPassed marks bounds p b) [
    | inr all ↦ all b e
    | inl here ↦ elim (get-push-either front last a here.0 here.1) as (λ _. IsPassed marks bounds p b) [
      | inl before ↦
          let lt : p < t = s.path_rises here.0 (length front) a last p t (get-below front here.0 a before) here.1 (get-push-new front last) h at in
          absurd (omega arith)
      | inr end ↦
          let ep : p ≡ t = same-open p t (sym h ∙ (ap (λ (y : ℕ). slice_get marks y) end.1 ∙ at)) in
          subst (λ (x : ℕ). IsPassed marks bounds x b) (sym ep) (looked_at b (subst (λ (x : ℕ). HasEdge g x b) end.1 e))
    ]
  ]

  -- what is done leads to what is done
  pub done-on : (n a b : ℕ) → Walk g n a b → IsDone marks a → IsDone marks b
  done-on zero a b w d = subst (λ (x : ℕ). IsDone marks x) w d
  done-on (suc n) a b w d = done-on n w.0 b w.2 (s.closed a d.0 w.0 d.1 w.1)

  segment-none : (r p : ℕ) → t ≤ r → NoBound bounds r p
  segment-none r p le j x h less most = let few : x ≤ t = bound-most g marks cursors stack bounds front order cyclic last s t at j x h in absurd (omega arith)

  -- the nodes from the last node's place on reach each other
  pub reach-each : (p r a b : ℕ) → t ≤ p → t ≤ r → slice_get stack p ≡ Some a → slice_get stack r ≡ Some b → Reaches g a b
  reach-each p r a b lp lr h i = elim (cases_lt p r) as (λ _. Reaches g a b) [
    | inl before ↦ s.forward p r a b (omega arith) h i
    | inr behind ↦ s.back p r a b behind h i (segment-none r p lr)
  ]

  apart : (p r a b : ℕ) → (p ≡ r → ⊥) → slice_get stack p ≡ Some a → slice_get stack r ≡ Some b → a ≡ b → ⊥
  apart p r a b other h i e = other (same-open p r (sym (s.stacked p a h) ∙ (ap (λ (y : ℕ). slice_get marks y) e ∙ s.stacked r b i)))

  cycle-with : (p r a b : ℕ) → t ≤ p → t ≤ r → (p ≡ r → ⊥) → slice_get stack p ≡ Some a → slice_get stack r ≡ Some b → IsOnCycle g a
  cycle-with p r a b lp lr other h i = cycle-from_both g a b (apart p r a b other h i) (reach-each p r a b lp lr h i) (reach-each r p b a lr lp i h)

  last-from : (p a : ℕ) → p ≡ t → slice_get stack p ≡ Some a → a ≡ last
  last-from p a e h = one-at stack t a last (subst (λ (x : ℕ). slice_get stack x ≡ Some a) e h) (s.opened last t at)

  module _ (below : List ℕ) (is : bounds ≡ below ++ t ∷ []) (f : Bool)
      (many : f ≡ true → (t + 1 < length stack) ⊎ HasEdge g last last) (single : f ≡ false → (length stack ≤ t + 1) × (HasEdge g last last → ⊥))
      (later : List Mark) (stack' order' : List ℕ) (cyclic' : List Bool) (c : Closing f t marks later stack stack' order order' cyclic cyclic') (size : length stack' ≡ t) where
    bound-old : (j x : ℕ) → slice_get below j ≡ Some x → slice_get bounds j ≡ Some x
    bound-old j x h = subst (λ (l : List ℕ). slice_get l j ≡ Some x) (sym is) (get-push-old below t x j h)

    bound-last : slice_get bounds (length below) ≡ Some t
    bound-last = subst (λ (l : List ℕ). slice_get l (length below) ≡ Some t) (sym is) (get-push-new below t)

    bound-cases : (j x : ℕ) → slice_get bounds j ≡ Some x → (slice_get below j ≡ Some x) ⊎ ((j ≡ length below) × (x ≡ t))
    bound-cases j x h = get-push-either below t x j (subst (λ (l : List ℕ). slice_get l j ≡ Some x) is h)

    was-open : (a p : ℕ) → slice_get later a ≡ Some (Open p) → (p < t) × (slice_get marks a ≡ Some (Open p))
    was-open a p h =
        let there : slice_get stack' p ≡ Some a = c.opened a p h in
        let lt : p < length stack' = get-below stack' p a there in
        let lt2 : p < t = omega arith in
        (lt2, s.stacked p a (c.prefix p a there))

    still-open : (a p : ℕ) → p < t → slice_get marks a ≡ Some (Open p) → slice_get later a ≡ Some (Open p)
    still-open a p lt h = let lt2 : p < length stack' = omega arith in c.still a p lt2 h

    now : (a p : ℕ) → t ≤ p → slice_get marks a ≡ Some (Open p) → IsDone later a
    now a p le h = let le2 : length stack' ≤ p = omega arith in c.done a p le2 h

    passed-low : (p b : ℕ) → p < t → IsPassed marks bounds p b → IsPassed later below p b
    passed-low p b lt (inl h) = inl (h.0, (c.still_done b h.0 h.1).0)
    passed-low p b lt (inr h) = elim (cases_lt h.0 t) as (λ _. IsPassed later below p b) [
      | inl low ↦ inr (h.0, still-open b h.0 low h.1, λ j x i less most. h.2 j x (bound-old j x i) less most)
      | inr high ↦ inl (now b h.0 high h.1)
    ]

    -- what an edge of the component leads to is done, or in the component
    passed-high : (p b : ℕ) → t ≤ p → IsPassed marks bounds p b → IsDone marks b ⊎ ((q : ℕ) × (t ≤ q) × (slice_get marks b ≡ Some (Open q)))
    passed-high p b le (inl h) = inl h
    passed-high p b le (inr h) = elim (cases_lt h.0 t) as (λ _. IsDone marks b ⊎ ((q : ℕ) × (t ≤ q) × (slice_get marks b ≡ Some (Open q)))) [
      | inl low ↦ absurd (h.2 (length below) t bound-last low le)
      | inr high ↦ inr (h.0, high, h.1)
    ]

    done-later : (b : ℕ) → IsDone marks b ⊎ ((q : ℕ) × (t ≤ q) × (slice_get marks b ≡ Some (Open q))) → IsDone later b
    done-later b (inl h) = (h.0, (c.still_done b h.0 h.1).0)
    done-later b (inr h) = now b h.0 h.1 h.2

    bounded-left : (j x : ℕ) → slice_get below j ≡ Some x → (a : ℕ) × (k : ℕ) × (slice_get stack' x ≡ Some a) × (slice_get front k ≡ Some a)
    bounded-left j x h =
        let b = s.bounded j x (bound-old j x h) in
        let lt : x < t = s.rising j (length below) x t (get-below below j x h) (bound-old j x h) bound-last in
        let mark : slice_get marks b.0 ≡ Some (Open x) = s.stacked x b.0 b.2 in
        elim (get-push-either front last b.0 b.1 b.3) as (λ _. (a : ℕ) × (k : ℕ) × (slice_get stack' x ≡ Some a) × (slice_get front k ≡ Some a)) [
          | inl before ↦ (b.0, b.1, c.opened b.0 x (still-open b.0 x lt mark), before)
          | inr here ↦
              let e : x ≡ t = same-open x t (sym mark ∙ (ap (λ (y : ℕ). slice_get marks y) here.1 ∙ at)) in
              absurd (omega arith)
        ]

    covered-left : (p a : ℕ) → slice_get stack' p ≡ Some a → (j : ℕ) × (x : ℕ) × (slice_get below j ≡ Some x) × (x ≤ p)
    covered-left p a h =
        let lt : p < length stack' = get-below stack' p a h in
        let b = s.covered p a (c.prefix p a h) in
        elim (bound-cases b.0 b.1 b.2) as (λ _. (j : ℕ) × (x : ℕ) × (slice_get below j ≡ Some x) × (x ≤ p)) [
          | inl old ↦ (b.0, b.1, old, b.3)
          | inr top ↦ absurd (omega (arith, top.1, b.3, size, lt))
        ]

    on_path-left : (k a : ℕ) → slice_get front k ≡ Some a → (p : ℕ) × (slice_get later a ≡ Some (Open p))
    on_path-left k a h =
        let o = s.on_path k a (get-push-old front last a k h) in
        let lt : o.0 < t = s.path_rises k (length front) a last o.0 t (get-below front k a h) (get-push-old front last a k h) (get-push-new front last) o.1 at in
        (o.0, still-open a o.0 lt o.1)

    back-left : (p q a b : ℕ) → q ≤ p → slice_get stack' p ≡ Some a → slice_get stack' q ≡ Some b → NoBound below q p → Reaches g a b
    back-left p q a b le h i none =
        let lt : p < length stack' = get-below stack' p a h in
        s.back p q a b le (c.prefix p a h) (c.prefix q b i)
        (λ j x k less most. elim (bound-cases j x k) as (λ _. ⊥) [ inl old ↦ none j x old less most | inr top ↦ absurd (omega (arith, top.1, size, lt, most)) ])

    awaits-left : (a p : ℕ) → slice_get later a ≡ Some (Open p) → ((k : ℕ) × (slice_get front k ≡ Some a)) ⊎ ((b : ℕ) → HasEdge g a b → IsPassed later below p b)
    awaits-left a p h =
        let w = was-open a p h in
        elim (s.awaits a p w.1) as (λ _. ((k : ℕ) × (slice_get front k ≡ Some a)) ⊎ ((b : ℕ) → HasEdge g a b → IsPassed later below p b)) [
          | inr all ↦ inr (λ b e. passed-low p b w.0 (all b e))
          | inl here ↦ elim (get-push-either front last a here.0 here.1) as (λ _. ((k : ℕ) × (slice_get front k ≡ Some a)) ⊎ ((b : ℕ) → HasEdge g a b → IsPassed later below p b)) [
            | inl before ↦ inl (here.0, before)
            | inr end ↦
                let ep : p ≡ t = same-open p t (sym w.1 ∙ (ap (λ (y : ℕ). slice_get marks y) end.1 ∙ at)) in
                absurd (omega (arith, w.0))
          ]
        ]

    closed-left : (a i b : ℕ) → slice_get later a ≡ Some (Done i) → HasEdge g a b → IsDone later b
    closed-left a i b h e = elim (c.now_done a i h) as (λ _. IsDone later b) [
      | inl old ↦ done-later b (inl (s.closed a i b old e))
      | inr new ↦ let le : t ≤ new.0 = omega (arith, new.1, size) in done-later b (passed-high new.0 b le (all-passed a new.0 b le new.2 e))
    ]

    -- where the component has one node
    alone : (a p : ℕ) → f ≡ false → t ≤ p → slice_get marks a ≡ Some (Open p) → (p ≡ t) × (a ≡ last)
    alone a p flagged le h =
        let there = s.opened a p h in
        let lt = get-below stack p a there in
        let most = (single flagged).0 in
        let e : p ≡ t = omega arith in
        (e, last-from p a e there)

    -- what an edge of a node by itself leads to was done before
    before-alone : (b : ℕ) → f ≡ false → HasEdge g last b → IsDone marks b
    before-alone b flagged e = elim (passed-high t b (omega arith) (looked_at b e)) as (λ _. IsDone marks b) [
      | inl old ↦ old
      | inr new ↦ absurd ((single flagged).1 (subst (λ (x : ℕ). HasEdge g last x) (alone b new.0 flagged new.1 new.2).1 e))
    ]

    earlier-left : (a i b j : ℕ) → slice_get later a ≡ Some (Done i) → slice_get cyclic' a ≡ Some false → HasEdge g a b → slice_get later b ≡ Some (Done j) → j < i
    earlier-left a i b j h flagged e k = elim (c.now_done a i h) as (λ _. j < i) [
      | inl old ↦
          let d = s.closed a i b old e in
          let same : d.0 ≡ j = same-done d.0 j (sym (c.still_done b d.0 d.1).0 ∙ k) in
          let lt : d.0 < i = s.earlier a i b d.0 old (sym (c.still_done a i old).1 ∙ flagged) e d.1 in
          omega arith
      | inr new ↦
          let flag : f ≡ false = same-bit f false (sym new.3 ∙ flagged) in
          let le : t ≤ new.0 = omega (arith, new.1, size) in
          let one = alone a new.0 flag le new.2 in
          let d = before-alone b flag (subst (λ (x : ℕ). HasEdge g x b) one.1 e) in
          let same : d.0 ≡ j = same-done d.0 j (sym (c.still_done b d.0 d.1).0 ∙ k) in
          let lt = get-below order d.0 b (s.finished b d.0 d.1) in
          omega (arith, new.4)
    ]
      where
        same-bit : (x y : Bool) → Some x ≡ Some y → x ≡ y
        same-bit x y e = cc

    on_cycle-left : (a i : ℕ) → slice_get later a ≡ Some (Done i) → slice_get cyclic' a ≡ Some true → IsOnCycle g a
    on_cycle-left a i h flagged = elim (c.now_done a i h) as (λ _. IsOnCycle g a) [
      | inl old ↦ s.on_cycle a i old (sym (c.still_done a i old).1 ∙ flagged)
      | inr new ↦
          let le : t ≤ new.0 = omega (arith, new.1, size) in
          let there = s.opened a new.0 new.2 in
          elim (cases_lt t new.0) as (λ _. IsOnCycle g a) [
            | inl above ↦ cycle-with new.0 t a last le (omega arith) (λ e. absurd (omega arith)) there (s.opened last t at)
            | inr most ↦
                let e : new.0 ≡ t = omega arith in
                let one : a ≡ last = last-from new.0 a e there in
                elim (many (same-bit f true (sym new.3 ∙ flagged))) as (λ _. IsOnCycle g a) [
                  | inl more ↦ let other = get-at stack (t + 1) more in cycle-with new.0 (t + 1) a other.0 le (omega arith) (λ x. absurd (omega arith)) there other.1
                  | inr itself ↦ subst (λ (x : ℕ). IsOnCycle g x) (sym one) (last, itself, reaches-itself g last)
                ]
          ]
    ]
      where
        same-bit : (x y : Bool) → Some x ≡ Some y → x ≡ y
        same-bit x y e = cc

    on_none-left : (a i : ℕ) → slice_get later a ≡ Some (Done i) → slice_get cyclic' a ≡ Some false → IsOnCycle g a → ⊥
    on_none-left a i h flagged cycle = elim (c.now_done a i h) as (λ _. ⊥) [
      | inl old ↦ s.on_none a i old (sym (c.still_done a i old).1 ∙ flagged) cycle
      | inr new ↦
          let flag : f ≡ false = same-bit f false (sym new.3 ∙ flagged) in
          let le : t ≤ new.0 = omega (arith, new.1, size) in
          let one = alone a new.0 flag le new.2 in
          let d = before-alone cycle.0 flag (subst (λ (x : ℕ). HasEdge g x cycle.0) one.1 cycle.1) in
          let end = done-on cycle.2.0 cycle.0 a cycle.2.1 d in
          open-done new.0 end.0 (sym new.2 ∙ end.1)
    ]
      where
        same-bit : (x y : Bool) → Some x ≡ Some y → x ≡ y
        same-bit x y e = cc

    pub State-close : State g later cursors stack' below front order' cyclic'
    State-close = record {
      marks_size = c.marks_size ∙ s.marks_size;
      cursors_size = s.cursors_size;
      cyclic_size = c.cyclic_size ∙ s.cyclic_size;
      opened = c.opened;
      stacked = c.stacked;
      finished = c.finished;
      ordered = c.ordered;
      fresh = λ a h. s.fresh a (c.still_new a h);
      bounded = bounded-left;
      rising = λ j k x y lt h i. s.rising j k x y lt (bound-old j x h) (bound-old k y i);
      covered = covered-left;
      on_path = on_path-left;
      path_rises = λ k l a b p q lt h i ha hb.
          s.path_rises k l a b p q lt (get-push-old front last a k h) (get-push-old front last b l i) (was-open a p ha).1 (was-open b q hb).1;
      forward = λ p q a b le h i. s.forward p q a b le (c.prefix p a h) (c.prefix q b i);
      back = back-left;
      scanned = λ a p m k b h i lt e. let w = was-open a p h in passed-low p b w.0 (s.scanned a p m k b w.1 i lt e);
      awaits = awaits-left;
      closed = closed-left;
      earlier = earlier-left;
      on_cycle = on_cycle-left;
      on_none = on_none-left;
    }
