-- A component's nodes are done one after the other.
use Rattle.std.proofs.Common.{◌≡◌, ◌⊎◌, ℕ, zero, suc, ◌<◌, ◌≤◌, Bool, List, [], ◌∷◌, ◌++◌, Some, refl, sym, ap, ◌∙◌, subst, inl, inr, arith, set, length, length-set, length-append}
use Rattle.std.proofs.lemmas.Bool.{cases_lt}
use Rattle.std.specs.Prelude.{slice_get}
use Rattle.digraph.specs.Search.{IsDone, Closing, news}
use Rattle.digraph.specs.declared.search.Mark.{Mark}
use Rattle.digraph.specs.declared.search.Mark.TheVariants.{New, Open, Done}
use Rattle.digraph.proofs.Lists.{get-set-same, get-set-other, get-push-old, get-push-new, get-push-either, get-below, get-at, one-at, set-cases}
use Rattle.digraph.proofs.Scanning.{same-open}

pub news-open : (marks : List Mark) (a p i : ℕ) → slice_get marks a ≡ Some (Open p) → news (set marks a (Done i)) ≡ news marks
news-open [] a p i h = refl
news-open (New ∷ ms) zero p i h = absurd (cc)
news-open (Open q ∷ ms) zero p i h = refl
news-open (Done q ∷ ms) zero p i h = absurd (cc)
news-open (New ∷ ms) (suc a) p i h = let r = news-open ms a p i h in omega arith
news-open (Open q ∷ ms) (suc a) p i h = news-open ms a p i h
news-open (Done q ∷ ms) (suc a) p i h = news-open ms a p i h

module _ (f : Bool) (first : ℕ) (old : List Mark) (old_stack old_order : List ℕ) (old_cyclic : List Bool)
    (opened : (a p : ℕ) → slice_get old a ≡ Some (Open p) → slice_get old_stack p ≡ Some a)
    (stacked : (p a : ℕ) → slice_get old_stack p ≡ Some a → slice_get old a ≡ Some (Open p)) where
  pub Closing-start : ((a i : ℕ) → slice_get old a ≡ Some (Done i) → slice_get old_order i ≡ Some a)
      → ((i a : ℕ) → slice_get old_order i ≡ Some a → slice_get old a ≡ Some (Done i)) → Closing f first old old old_stack old_stack old_order old_order old_cyclic old_cyclic
  Closing-start finished ordered = record {
    marks_size = refl;
    cyclic_size = refl;
    opened = opened;
    stacked = stacked;
    finished = finished;
    ordered = ordered;
    more = omega arith;
    prefix = λ p a h. h;
    still = λ a p lt h. h;
    still_new = λ a h. h;
    still_done = λ a i h. (h, refl);
    now_done = λ a i h. inl h;
    done = λ a p le h. absurd (omega (arith, get-below old_stack p a (opened a p h)));
    same_news = refl;
  }

  module _ (marks : List Mark) (rest order : List ℕ) (cyclic : List Bool) (node : ℕ)
      (c : Closing f first old marks old_stack (rest ++ node ∷ []) old_order order old_cyclic cyclic) (sizes : length old_cyclic ≡ length old) where
    pub here : slice_get marks node ≡ Some (Open (length rest))
    here = c.stacked (length rest) node (get-push-new rest node)

    length-more : length (rest ++ node ∷ []) ≡ suc (length rest)
    length-more = omega (arith, length-append rest (node ∷ []))

    other-open : (a p : ℕ) → p < length rest → slice_get marks a ≡ Some (Open p) → a ≡ node → ⊥
    other-open a p lt h e = let same : p ≡ length rest = same-open p (length rest) (sym h ∙ (ap (λ (x : ℕ). slice_get marks x) e ∙ here)) in absurd (omega arith)

    other-done : (a i : ℕ) → slice_get marks a ≡ Some (Done i) → a ≡ node → ⊥
    other-done a i h e = clash (sym h ∙ (ap (λ (x : ℕ). slice_get marks x) e ∙ here))
      where
        clash : Some (Done i) ≡ Some (Open (length rest)) → ⊥
        clash e = cc

    marked-other : (a : ℕ) (m : Mark) → (a ≡ node → ⊥) → slice_get marks a ≡ Some m → slice_get (set marks node (Done (length order))) a ≡ Some m
    marked-other a m other h = get-set-other marks node a (Done (length order)) other ∙ h

    pub cyclic-there : (b : Bool) × (slice_get cyclic node ≡ Some b)
    cyclic-there =
        let lt = get-below marks node (Open (length rest)) here in
        get-at cyclic node (omega (arith, c.marks_size, c.cyclic_size, sizes))

    was : (a : ℕ) (m : Mark) → slice_get (set marks node (Done (length order))) a ≡ Some m
        → ((a ≡ node) × (m ≡ Done (length order))) ⊎ ((a ≡ node → ⊥) × (slice_get marks a ≡ Some m))
    was a m h = set-cases marks node a (Done (length order)) m (Open (length rest)) here h

    opened-next : (a p : ℕ) → slice_get (set marks node (Done (length order))) a ≡ Some (Open p) → slice_get rest p ≡ Some a
    opened-next a p h = elim (was a (Open p) h) as (λ _. slice_get rest p ≡ Some a) [
      | inl same ↦ absurd (let e : Open p ≡ Done (length order) = same.1 in cc)
      | inr other ↦ elim (get-push-either rest node a p (c.opened a p other.1)) as (λ _. slice_get rest p ≡ Some a) [
        | inl before ↦ before
        | inr end ↦ absurd (other.0 end.1)
      ]
    ]

    stacked-next : (p a : ℕ) → slice_get rest p ≡ Some a → slice_get (set marks node (Done (length order))) a ≡ Some (Open p)
    stacked-next p a h =
        let mark = c.stacked p a (get-push-old rest node a p h) in
        marked-other a (Open p) (other-open a p (get-below rest p a h) mark) mark

    finished-next : (a i : ℕ) → slice_get (set marks node (Done (length order))) a ≡ Some (Done i) → slice_get (order ++ node ∷ []) i ≡ Some a
    finished-next a i h = elim (was a (Done i) h) as (λ _. slice_get (order ++ node ∷ []) i ≡ Some a) [
      | inl same ↦
          subst (λ (x : ℕ). slice_get (order ++ node ∷ []) i ≡ Some x) (sym same.0)
          (subst (λ (x : ℕ). slice_get (order ++ node ∷ []) x ≡ Some node) (sym (rank same.1)) (get-push-new order node))
      | inr other ↦ get-push-old order node a i (c.finished a i other.1)
    ]
      where
        rank : Done i ≡ Done (length order) → i ≡ length order
        rank e = cc

    ordered-next : (i a : ℕ) → slice_get (order ++ node ∷ []) i ≡ Some a → slice_get (set marks node (Done (length order))) a ≡ Some (Done i)
    ordered-next i a h = elim (get-push-either order node a i h) as (λ _. slice_get (set marks node (Done (length order))) a ≡ Some (Done i)) [
      | inl before ↦ let mark = c.ordered i a before in marked-other a (Done i) (other-done a i mark) mark
      | inr end ↦
          subst (λ (x : ℕ). slice_get (set marks node (Done (length order))) x ≡ Some (Done i)) (sym end.1)
          (subst (λ (x : ℕ). slice_get (set marks node (Done (length order))) node ≡ Some (Done x)) (sym end.0)
          (get-set-same marks node (Done (length order)) (Open (length rest)) here))
    ]

    pub old-here : slice_get old node ≡ Some (Open (length rest))
    old-here = stacked (length rest) node (c.prefix (length rest) node (get-push-new rest node))

    now_done-next : (a i : ℕ) → slice_get (set marks node (Done (length order))) a ≡ Some (Done i)
        → (slice_get old a ≡ Some (Done i)) ⊎ ((p : ℕ) × (length rest ≤ p) × (slice_get old a ≡ Some (Open p)) × (slice_get (set cyclic node f) a ≡ Some f) × (length old_order ≤ i))
    now_done-next a i h =
        elim (was a (Done i) h) as (λ _. (slice_get old a ≡ Some (Done i))
        ⊎ ((p : ℕ) × (length rest ≤ p) × (slice_get old a ≡ Some (Open p)) × (slice_get (set cyclic node f) a ≡ Some f) × (length old_order ≤ i))) [
          | inl same ↦
              let rank : i ≡ length order = of_rank same.1 in
              inr (
                length rest,
                omega arith,
                ap (λ (x : ℕ). slice_get old x) same.0 ∙ old-here,
                ap (λ (x : ℕ). slice_get (set cyclic node f) x) same.0 ∙ get-set-same cyclic node f cyclic-there.0 cyclic-there.1,
                omega (arith, c.more),
              )
          | inr other ↦
              elim (c.now_done a i other.1) as (λ _. (slice_get old a ≡ Some (Done i))
              ⊎ ((p : ℕ) × (length rest ≤ p) × (slice_get old a ≡ Some (Open p)) × (slice_get (set cyclic node f) a ≡ Some f) × (length old_order ≤ i))) [
                | inl before ↦ inl before
                | inr new ↦ inr (new.0, omega (arith, new.1, length-more), new.2, get-set-other cyclic node a f other.0 ∙ new.3, new.4)
              ]
        ]
      where
        of_rank : Done i ≡ Done (length order) → i ≡ length order
        of_rank e = cc

    done-next : (a p : ℕ) → length rest ≤ p → slice_get old a ≡ Some (Open p) → IsDone (set marks node (Done (length order))) a
    done-next a p le h = elim (cases_lt (length rest) p) as (λ _. IsDone (set marks node (Done (length order))) a) [
      | inl above ↦
          let d = c.done a p (omega (arith, length-more)) h in
          (d.0, marked-other a (Done d.0) (other-done a d.0 d.1) d.1)
      | inr most ↦
          let e : p ≡ length rest = omega arith in
          let one : a ≡ node = one-at old_stack (length rest) a node (subst (λ (x : ℕ). slice_get old_stack x ≡ Some a) e (opened a p h)) (c.prefix (length rest) node (get-push-new rest node)) in
          (length order, ap (λ (x : ℕ). slice_get (set marks node (Done (length order))) x) one ∙ get-set-same marks node (Done (length order)) (Open (length rest)) here)
    ]

    pub Closing-next : Closing f first old (set marks node (Done (length order))) old_stack rest old_order (order ++ node ∷ []) old_cyclic (set cyclic node f)
    Closing-next = record {
      marks_size = length-set marks node (Done (length order)) ∙ c.marks_size;
      cyclic_size = length-set cyclic node f ∙ c.cyclic_size;
      opened = opened-next;
      stacked = stacked-next;
      finished = finished-next;
      ordered = ordered-next;
      more = omega (arith, c.more, length-append order (node ∷ []));
      prefix = λ p a h. c.prefix p a (get-push-old rest node a p h);
      still = λ a p lt h. let mark = c.still a p (omega (arith, length-more)) h in marked-other a (Open p) (other-open a p lt mark) mark;
      still_new = λ a h. elim (was a New h) as (λ _. slice_get old a ≡ Some New) [ inl same ↦ absurd (let e : New ≡ Done (length order) = same.1 in cc) | inr other ↦ c.still_new a other.1 ];
      still_done = λ a i h. let d = c.still_done a i h in let other = other-done a i d.0 in (marked-other a (Done i) other d.0, get-set-other cyclic node a f other ∙ d.1);
      now_done = now_done-next;
      done = done-next;
      same_news = news-open marks node (length rest) (length order) here ∙ c.same_news;
    }
