-- A node that is new goes on the path.
use Rattle.std.proofs.Common.{◌≡◌, ◌⊎◌, ℕ, ◌<◌, ◌≤◌, Bool, List, [], ◌∷◌, ◌++◌, Some, sym, ap, ◌∙◌, subst, inl, inr, arith, set, length, length-set}
use Rattle.std.specs.Prelude.{slice_get}
use Rattle.digraph.specs.Graph.{Graph, IsEntry, HasEdge, Reaches}
use Rattle.digraph.specs.Search.{State, IsPassed, NoBound}
use Rattle.digraph.specs.declared.search.Mark.{Mark}
use Rattle.digraph.specs.declared.search.Mark.TheVariants.{New, Open, Done}
use Rattle.digraph.proofs.Lists.{get-set-same, get-set-other, get-push-old, get-push-new, get-push-either, get-below, reaches-itself, set-cases}

module _ (g : Graph) (marks : List Mark) (cursors stack bounds path order : List ℕ) (cyclic : List Bool) (s : State g marks cursors stack bounds path order cyclic)
    (w : ℕ) (new : slice_get marks w ≡ Some New) (reached : (p a : ℕ) → slice_get stack p ≡ Some a → Reaches g a w) where
  abbrev entered : List Mark
  entered = set marks w (Open (length stack))

  kept : (a : ℕ) (m : Mark) → (New ≡ m → ⊥) → slice_get marks a ≡ Some m → slice_get (set marks w (Open (length stack))) a ≡ Some m
  kept a m other h = get-set-other marks w a (Open (length stack)) (λ e. other (same (sym new ∙ (ap (λ (x : ℕ). slice_get marks x) (sym e) ∙ h)))) ∙ h
    where
      same : Some New ≡ Some m → New ≡ m
      same e = cc

  kept-open : (a p : ℕ) → slice_get marks a ≡ Some (Open p) → slice_get (set marks w (Open (length stack))) a ≡ Some (Open p)
  kept-open a p h = kept a (Open p) (λ e. cc) h

  kept-done : (a i : ℕ) → slice_get marks a ≡ Some (Done i) → slice_get (set marks w (Open (length stack))) a ≡ Some (Done i)
  kept-done a i h = kept a (Done i) (λ e. cc) h

  was : (a : ℕ) (m : Mark) → slice_get (set marks w (Open (length stack))) a ≡ Some m → ((a ≡ w) × (m ≡ Open (length stack))) ⊎ (slice_get marks a ≡ Some m)
  was a m h = elim (set-cases marks w a (Open (length stack)) m New new h) as (λ _. ((a ≡ w) × (m ≡ Open (length stack))) ⊎ (slice_get marks a ≡ Some m)) [
    | inl same ↦ inl same
    | inr other ↦ inr other.1
  ]

  was-done : (a i : ℕ) → slice_get (set marks w (Open (length stack))) a ≡ Some (Done i) → slice_get marks a ≡ Some (Done i)
  was-done a i h = elim (was a (Done i) h) as (λ _. slice_get marks a ≡ Some (Done i)) [ inl same ↦ absurd (let e : Done i ≡ Open (length stack) = same.1 in cc) | inr old ↦ old ]

  -- an old open node
  place-below : (a p : ℕ) → slice_get marks a ≡ Some (Open p) → p < length stack
  place-below a p h = get-below stack p a (s.opened a p h)

  not-new : (k a : ℕ) → slice_get path k ≡ Some a → a ≡ w → ⊥
  not-new k a h e = let o = s.on_path k a h in absurd (clash (sym new ∙ (ap (λ (x : ℕ). slice_get marks x) (sym e) ∙ o.1)))
    where
      clash : {p : ℕ} → Some New ≡ Some (Open p) → ⊥
      clash e = cc

  was-on_path : (k a p : ℕ) → slice_get path k ≡ Some a → slice_get (set marks w (Open (length stack))) a ≡ Some (Open p) → slice_get marks a ≡ Some (Open p)
  was-on_path k a p h e = elim (was a (Open p) e) as (λ _. slice_get marks a ≡ Some (Open p)) [ inl same ↦ absurd (not-new k a h same.0) | inr old ↦ old ]

  no_bound-old : (q p : ℕ) → NoBound (bounds ++ length stack ∷ []) q p → NoBound bounds q p
  no_bound-old q p none j x h = none j x (get-push-old bounds (length stack) x j h)

  passed : (p b : ℕ) → p < length stack → IsPassed marks bounds p b → IsPassed (set marks w (Open (length stack))) (bounds ++ length stack ∷ []) p b
  passed p b lt (inl h) = inl (h.0, kept-done b h.0 h.1)
  passed p b lt (inr h) = inr (
    h.0,
    kept-open b h.0 h.1,
    λ j x at less most. elim (get-push-either bounds (length stack) x j at) as (λ _. ⊥) [ inl old ↦ h.2 j x old less most | inr last ↦ absurd (omega (arith, last.1)) ],
  )

  opened-new : (a p : ℕ) → slice_get (set marks w (Open (length stack))) a ≡ Some (Open p) → slice_get (stack ++ w ∷ []) p ≡ Some a
  opened-new a p h = elim (was a (Open p) h) as (λ _. slice_get (stack ++ w ∷ []) p ≡ Some a) [
    | inl same ↦ let ep : p ≡ length stack = place (same.1) in subst (λ (x : ℕ). slice_get (stack ++ w ∷ []) p ≡ Some x) (sym same.0) (subst (λ (x : ℕ). slice_get (stack ++ w ∷ []) x ≡ Some w) (sym ep) (get-push-new stack w))
    | inr old ↦ get-push-old stack w a p (s.opened a p old)
  ]
    where
      place : Open p ≡ Open (length stack) → p ≡ length stack
      place e = cc

  stacked-new : (p a : ℕ) → slice_get (stack ++ w ∷ []) p ≡ Some a → slice_get (set marks w (Open (length stack))) a ≡ Some (Open p)
  stacked-new p a h = elim (get-push-either stack w a p h) as (λ _. slice_get (set marks w (Open (length stack))) a ≡ Some (Open p)) [
    | inl old ↦ kept-open a p (s.stacked p a old)
    | inr last ↦
        subst (λ (x : ℕ). slice_get (set marks w (Open (length stack))) x ≡ Some (Open p)) (sym last.1)
        (subst (λ (x : ℕ). slice_get (set marks w (Open (length stack))) w ≡ Some (Open x)) (sym last.0) (get-set-same marks w (Open (length stack)) New new))
  ]

  bounded-new : (j x : ℕ) → slice_get (bounds ++ length stack ∷ []) j ≡ Some x
      → (a : ℕ) × (k : ℕ) × (slice_get (stack ++ w ∷ []) x ≡ Some a) × (slice_get (path ++ w ∷ []) k ≡ Some a)
  bounded-new j x h = elim (get-push-either bounds (length stack) x j h) as (λ _. (a : ℕ) × (k : ℕ) × (slice_get (stack ++ w ∷ []) x ≡ Some a) × (slice_get (path ++ w ∷ []) k ≡ Some a)) [
    | inl old ↦ let b = s.bounded j x old in (b.0, b.1, get-push-old stack w b.0 x b.2, get-push-old path w b.0 b.1 b.3)
    | inr last ↦ (w, length path, subst (λ (y : ℕ). slice_get (stack ++ w ∷ []) y ≡ Some w) (sym last.1) (get-push-new stack w), get-push-new path w)
  ]

  rising-new : (j k x y : ℕ) → j < k → slice_get (bounds ++ length stack ∷ []) j ≡ Some x → slice_get (bounds ++ length stack ∷ []) k ≡ Some y → x < y
  rising-new j k x y lt h i = elim (get-push-either bounds (length stack) y k i) as (λ _. x < y) [
    | inl old ↦ elim (get-push-either bounds (length stack) x j h) as (λ _. x < y) [
      | inl older ↦ s.rising j k x y lt older old
      | inr last ↦ absurd (omega (arith, get-below bounds k y old, last.0))
    ]
    | inr last ↦ elim (get-push-either bounds (length stack) x j h) as (λ _. x < y) [
      | inl older ↦ let b = s.bounded j x older in omega (arith, get-below stack x b.0 b.2, last.1)
      | inr end ↦ absurd (omega (arith, last.0, end.0))
    ]
  ]

  covered-new : (p a : ℕ) → slice_get (stack ++ w ∷ []) p ≡ Some a → (j : ℕ) × (x : ℕ) × (slice_get (bounds ++ length stack ∷ []) j ≡ Some x) × (x ≤ p)
  covered-new p a h = elim (get-push-either stack w a p h) as (λ _. (j : ℕ) × (x : ℕ) × (slice_get (bounds ++ length stack ∷ []) j ≡ Some x) × (x ≤ p)) [
    | inl old ↦ let b = s.covered p a old in (b.0, b.1, get-push-old bounds (length stack) b.1 b.0 b.2, b.3)
    | inr last ↦ (length bounds, length stack, get-push-new bounds (length stack), omega (arith, last.0))
  ]

  on_path-new : (k a : ℕ) → slice_get (path ++ w ∷ []) k ≡ Some a → (p : ℕ) × (slice_get (set marks w (Open (length stack))) a ≡ Some (Open p))
  on_path-new k a h = elim (get-push-either path w a k h) as (λ _. (p : ℕ) × (slice_get (set marks w (Open (length stack))) a ≡ Some (Open p))) [
    | inl old ↦ let o = s.on_path k a old in (o.0, kept-open a o.0 o.1)
    | inr last ↦
        (length stack, subst (λ (x : ℕ). slice_get (set marks w (Open (length stack))) x ≡ Some (Open (length stack))) (sym last.1) (get-set-same marks w (Open (length stack)) New new))
  ]

  place-of_new : (q : ℕ) → slice_get (set marks w (Open (length stack))) w ≡ Some (Open q) → q ≡ length stack
  place-of_new q h = same (sym h ∙ get-set-same marks w (Open (length stack)) New new)
    where
      same : Some (Open q) ≡ Some (Open (length stack)) → q ≡ length stack
      same e = cc

  path_rises-new : (k l a b p q : ℕ) → k < l → slice_get (path ++ w ∷ []) k ≡ Some a → slice_get (path ++ w ∷ []) l ≡ Some b
      → slice_get (set marks w (Open (length stack))) a ≡ Some (Open p) → slice_get (set marks w (Open (length stack))) b ≡ Some (Open q) → p < q
  path_rises-new k l a b p q lt h i ha hb = elim (get-push-either path w b l i) as (λ _. p < q) [
    | inl old ↦ elim (get-push-either path w a k h) as (λ _. p < q) [
      | inl older ↦ s.path_rises k l a b p q lt older old (was-on_path k a p older ha) (was-on_path l b q old hb)
      | inr last ↦ absurd (omega (arith, get-below path l b old, last.0))
    ]
    | inr last ↦ elim (get-push-either path w a k h) as (λ _. p < q) [
      | inl older ↦
          let eq = place-of_new q (subst (λ (x : ℕ). slice_get (set marks w (Open (length stack))) x ≡ Some (Open q)) last.1 hb) in
          omega (arith, place-below a p (was-on_path k a p older ha), eq)
      | inr end ↦ absurd (omega (arith, last.0, end.0))
    ]
  ]

  forward-new : (p q a b : ℕ) → p ≤ q → slice_get (stack ++ w ∷ []) p ≡ Some a → slice_get (stack ++ w ∷ []) q ≡ Some b → Reaches g a b
  forward-new p q a b le h i = elim (get-push-either stack w b q i) as (λ _. Reaches g a b) [
    | inl old ↦ elim (get-push-either stack w a p h) as (λ _. Reaches g a b) [
      | inl older ↦ s.forward p q a b le older old
      | inr last ↦ absurd (omega (arith, get-below stack q b old, last.0))
    ]
    | inr last ↦ elim (get-push-either stack w a p h) as (λ _. Reaches g a b) [
      | inl older ↦ subst (λ (x : ℕ). Reaches g a x) (sym last.1) (reached p a older)
      | inr end ↦ subst (λ (x : ℕ). Reaches g a x) (end.1 ∙ sym last.1) (reaches-itself g a)
    ]
  ]

  back-new : (p q a b : ℕ) → q ≤ p → slice_get (stack ++ w ∷ []) p ≡ Some a → slice_get (stack ++ w ∷ []) q ≡ Some b → NoBound (bounds ++ length stack ∷ []) q p → Reaches g a b
  back-new p q a b le h i none = elim (get-push-either stack w a p h) as (λ _. Reaches g a b) [
    | inl old ↦ elim (get-push-either stack w b q i) as (λ _. Reaches g a b) [
      | inl older ↦ s.back p q a b le old older (no_bound-old q p none)
      | inr last ↦ absurd (omega (arith, get-below stack p a old, last.0))
    ]
    | inr last ↦ elim (get-push-either stack w b q i) as (λ _. Reaches g a b) [
      | inl older ↦ absurd (none (length bounds) (length stack) (get-push-new bounds (length stack)) (get-below stack q b older) (omega (arith, last.0)))
      | inr end ↦ subst (λ (x : ℕ). Reaches g a x) (last.1 ∙ sym end.1) (reaches-itself g a)
    ]
  ]

  scanned-new : (a p m k b : ℕ) → slice_get (set marks w (Open (length stack))) a ≡ Some (Open p) → slice_get cursors a ≡ Some m → k < m → IsEntry g a k b
      → IsPassed (set marks w (Open (length stack))) (bounds ++ length stack ∷ []) p b
  scanned-new a p m k b h at lt entry = elim (was a (Open p) h) as (λ _. IsPassed (set marks w (Open (length stack))) (bounds ++ length stack ∷ []) p b) [
    | inl same ↦
        let none : m ≡ 0 = number m (sym at ∙ (ap (λ (x : ℕ). slice_get cursors x) same.0 ∙ s.fresh w new)) in
        absurd (omega arith)
    | inr old ↦ passed p b (place-below a p old) (s.scanned a p m k b old at lt entry)
  ]
    where
      number : (x : ℕ) → Some x ≡ Some 0 → x ≡ 0
      number x e = cc

  awaits-new : (a p : ℕ) → slice_get (set marks w (Open (length stack))) a ≡ Some (Open p)
      → ((k : ℕ) × (slice_get (path ++ w ∷ []) k ≡ Some a)) ⊎ ((b : ℕ) → HasEdge g a b → IsPassed (set marks w (Open (length stack))) (bounds ++ length stack ∷ []) p b)
  awaits-new a p h =
      elim (was a (Open p) h) as (λ _. ((k : ℕ) × (slice_get (path ++ w ∷ []) k ≡ Some a)) ⊎ ((b : ℕ) → HasEdge g a b → IsPassed (set marks w (Open (length stack))) (bounds ++ length stack ∷ []) p b)) [
        | inl same ↦ inl (length path, subst (λ (x : ℕ). slice_get (path ++ w ∷ []) (length path) ≡ Some x) (sym same.0) (get-push-new path w))
        | inr old ↦
            elim (s.awaits a p old) as (λ _. ((k : ℕ) × (slice_get (path ++ w ∷ []) k ≡ Some a)) ⊎ ((b : ℕ) → HasEdge g a b → IsPassed (set marks w (Open (length stack))) (bounds ++ length stack ∷ []) p b)) [
              | inl here ↦ inl (here.0, get-push-old path w a here.0 here.1)
              | inr all ↦ inr (λ b e. passed p b (place-below a p old) (all b e))
            ]
      ]

  pub State-enter : State g (set marks w (Open (length stack))) cursors (stack ++ w ∷ []) (bounds ++ length stack ∷ []) (path ++ w ∷ []) order cyclic
  State-enter = record {
    marks_size = length-set marks w (Open (length stack)) ∙ s.marks_size;
    cursors_size = s.cursors_size;
    cyclic_size = s.cyclic_size;
    opened = opened-new;
    stacked = stacked-new;
    finished = λ a i h. s.finished a i (was-done a i h);
    ordered = λ i a h. kept-done a i (s.ordered i a h);
    fresh = λ a h. elim (was a New h) as (λ _. slice_get cursors a ≡ Some 0) [ inl same ↦ absurd (let e : New ≡ Open (length stack) = same.1 in cc) | inr old ↦ s.fresh a old ];
    bounded = bounded-new;
    rising = rising-new;
    covered = covered-new;
    on_path = on_path-new;
    path_rises = path_rises-new;
    forward = forward-new;
    back = back-new;
    scanned = scanned-new;
    awaits = awaits-new;
    closed = λ a i b h e. let d = s.closed a i b (was-done a i h) e in (d.0, kept-done b d.0 d.1);
    earlier = λ a i b j h n e k. s.earlier a i b j (was-done a i h) n e (was-done b j k);
    on_cycle = λ a i h. s.on_cycle a i (was-done a i h);
    on_none = λ a i h. s.on_none a i (was-done a i h);
  }
