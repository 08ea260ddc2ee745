-- The path's last node: where the stack leads to it, and its next entry.
use Rattle.std.proofs.Common.{◌≡◌, ◌⊎◌, ℕ, ◌+◌, ◌<◌, ◌≤◌, Bool, List, [], ◌∷◌, ◌++◌, Some, sym, ap, ◌∙◌, subst, inl, inr, arith, set, length, length-set, Vec}
use Rattle.std.proofs.lemmas.Bool.{cases_lt}
use Rattle.std.specs.Prelude.{slice_get}
use Rattle.std.specs.Global.{Global}
use Rattle.digraph.specs.Graph.{Graph, IsEntry, HasEdge, Reaches}
use Rattle.digraph.specs.Search.{State, IsPassed, NoBound, Keeps}
use Rattle.digraph.specs.declared.search.Mark.{Mark}
use Rattle.digraph.specs.declared.search.Mark.TheVariants.{New, Open}
use Rattle.digraph.proofs.Lists.{get-push-new, get-push-either, get-below, get-set-other, one-at, set-cases, reaches-on, reaches-edge}

pub same-open : (p q : ℕ) → Some (Open p) ≡ Some (Open q) → p ≡ q
same-open p q e = cc

module _ (g : Graph) (marks : List Mark) (cursors stack bounds front order : List ℕ) (cyclic : List Bool) (last : ℕ)
    (s : State g marks cursors stack bounds (front ++ last ∷ []) order cyclic) where
  pub last-open : (t : ℕ) × (slice_get marks last ≡ Some (Open t))
  last-open = s.on_path (length front) last (get-push-new front last)

  module _ (t : ℕ) (at : slice_get marks last ≡ Some (Open t)) where
    -- no component begins above the last node
    pub bound-most : (j x : ℕ) → slice_get bounds j ≡ Some x → x ≤ t
    bound-most j x h =
        let b = s.bounded j x h in
        let mark : slice_get marks b.0 ≡ Some (Open x) = s.stacked x b.0 b.2 in
        elim (get-push-either front last b.0 b.1 b.3) as (λ _. x ≤ t) [
          | inl before ↦ let lt = s.path_rises b.1 (length front) b.0 last x t (get-below front b.1 b.0 before) b.3 (get-push-new front last) mark at in omega arith
          | inr here ↦ let e : x ≡ t = same-open x t (sym mark ∙ (ap (λ (y : ℕ). slice_get marks y) here.1 ∙ at)) in omega arith
        ]

    -- each node of the stack leads to it
    pub leads-to_last : (p a : ℕ) → slice_get stack p ≡ Some a → Reaches g a last
    leads-to_last p a h = elim (cases_lt t p) as (λ _. Reaches g a last) [
      | inl above ↦ s.back p t a last (omega arith) h (s.opened last t at) (λ j x b less most. let le = bound-most j x b in absurd (omega arith))
      | inr below ↦ s.forward p t a last below h (s.opened last t at)
    ]

    pub leads-to_next : (w : ℕ) → HasEdge g last w → (p a : ℕ) → slice_get stack p ≡ Some a → Reaches g a w
    leads-to_next w e p a h = reaches-edge g a last w (leads-to_last p a h) e

    -- the entry at the cursor is passed, and the cursor moves on
    pub State-scan : (m w : ℕ) → slice_get cursors last ≡ Some m → IsEntry g last m w → IsPassed marks bounds t w
        → State g marks (set cursors last (m + 1)) stack bounds (front ++ last ∷ []) order cyclic
    State-scan m w is entry passed = record {
      marks_size = s.marks_size;
      cursors_size = length-set cursors last (m + 1) ∙ s.cursors_size;
      cyclic_size = s.cyclic_size;
      opened = s.opened;
      stacked = s.stacked;
      finished = s.finished;
      ordered = s.ordered;
      fresh = λ a h. elim (cases_eq-new a h) as (λ _. slice_get (set cursors last (m + 1)) a ≡ Some 0) [ inl e ↦ absurd e | inr other ↦ get-other a other ∙ s.fresh a h ];
      bounded = s.bounded;
      rising = s.rising;
      covered = s.covered;
      on_path = s.on_path;
      path_rises = s.path_rises;
      forward = s.forward;
      back = s.back;
      scanned = scanned-more;
      awaits = s.awaits;
      closed = s.closed;
      earlier = s.earlier;
      on_cycle = s.on_cycle;
      on_none = s.on_none;
    }
      where
        clash : Some (Open t) ≡ Some New → ⊥
        clash e = cc

        cases_eq-new : (a : ℕ) → slice_get marks a ≡ Some New → ⊥ ⊎ (a ≡ last → ⊥)
        cases_eq-new a h = inr (λ e. clash (sym at ∙ (ap (λ (x : ℕ). slice_get marks x) (sym e) ∙ h)))

        get-other : (a : ℕ) → (a ≡ last → ⊥) → slice_get (set cursors last (m + 1)) a ≡ slice_get cursors a
        get-other a other = get-set-other cursors last a (m + 1) other

        scanned-more : (a p n k b : ℕ) → slice_get marks a ≡ Some (Open p) → slice_get (set cursors last (m + 1)) a ≡ Some n → k < n → IsEntry g a k b → IsPassed marks bounds p b
        scanned-more a p n k b h i lt e = elim (set-cases cursors last a (m + 1) n m is i) as (λ _. IsPassed marks bounds p b) [
          | inr other ↦ s.scanned a p n k b h other.1 lt e
          | inl same ↦
              let ep : p ≡ t = same-open p t (sym h ∙ (ap (λ (x : ℕ). slice_get marks x) same.0 ∙ at)) in
              let here : IsEntry g last k b = subst (λ (x : ℕ). IsEntry g x k b) same.0 e in
              let most : k < m + 1 = omega (arith, lt, same.1) in
              elim (cases_lt k m) as (λ _. IsPassed marks bounds p b) [
                | inl less ↦ s.scanned a p m k b h (ap (λ (x : ℕ). slice_get cursors x) same.0 ∙ is) less e
                | inr more ↦
                    let ek : k ≡ m = omega arith in
                    let one : b ≡ w = one-entry b (subst (λ (x : ℕ). IsEntry g last x b) ek here) in
                    subst (λ (x : ℕ). IsPassed marks bounds x b) (sym ep) (subst (λ (x : ℕ). IsPassed marks bounds t x) (sym one) passed)
              ]
        ]
          where
            one-entry : (x : ℕ) → IsEntry g last m x → x ≡ w
            one-entry x f =
                let rows = one-at g last f.0 entry.0 f.1 entry.1 in
                one-at entry.0.items m x w (subst (λ (r : Vec ℕ Global). slice_get r.items m ≡ Some x) rows f.2) entry.2

    -- an edge to an open node makes one component of all those above it
    pub State-merge : (w q : ℕ) (kept : List ℕ) → HasEdge g last w → slice_get marks w ≡ Some (Open q) → Keeps q bounds kept
        → State g marks cursors stack kept (front ++ last ∷ []) order cyclic
    State-merge w q kept edge mark keeps = record {
      marks_size = s.marks_size;
      cursors_size = s.cursors_size;
      cyclic_size = s.cyclic_size;
      opened = s.opened;
      stacked = s.stacked;
      finished = s.finished;
      ordered = s.ordered;
      fresh = s.fresh;
      bounded = λ j x h. s.bounded j x (keeps.within j x h).0;
      rising = λ j k x y lt h i. s.rising j k x y lt (keeps.within j x h).0 (keeps.within k y i).0;
      covered = covered-more;
      on_path = s.on_path;
      path_rises = s.path_rises;
      forward = s.forward;
      back = back-more;
      scanned = λ a p m k b h i lt e. passed-more p b (s.scanned a p m k b h i lt e);
      awaits = λ a p h. elim (s.awaits a p h) as (λ _. ((k : ℕ) × (slice_get (front ++ last ∷ []) k ≡ Some a)) ⊎ ((b : ℕ) → HasEdge g a b → IsPassed marks kept p b)) [
        | inl here ↦ inl here
        | inr all ↦ inr (λ b e. passed-more p b (all b e))
      ];
      closed = s.closed;
      earlier = s.earlier;
      on_cycle = s.on_cycle;
      on_none = s.on_none;
    }
      where
        passed-more : (p b : ℕ) → IsPassed marks bounds p b → IsPassed marks kept p b
        passed-more p b (inl h) = inl h
        passed-more p b (inr h) = inr (h.0, h.1, λ j x at' less most. h.2 j x (keeps.within j x at').0 less most)

        covered-more : (p a : ℕ) → slice_get stack p ≡ Some a → (j : ℕ) × (x : ℕ) × (slice_get kept j ≡ Some x) × (x ≤ p)
        covered-more p a h =
            let b = s.covered p a h in
            let c = s.covered q w (s.opened w q mark) in
            elim (cases_lt q b.1) as (λ _. (j : ℕ) × (x : ℕ) × (slice_get kept j ≡ Some x) × (x ≤ p)) [
              | inl above ↦ let le : c.1 ≤ p = omega (arith, b.3, c.3) in (c.0, c.1, keeps.kept c.0 c.1 c.2 c.3, le)
              | inr below ↦ (b.0, b.1, keeps.kept b.0 b.1 b.2 below, b.3)
            ]

        -- from the node that the edge leads to, back to what stands below
        from-next : (p b : ℕ) → slice_get stack p ≡ Some b → NoBound kept p q → Reaches g w b
        from-next p b h none = elim (cases_lt p q) as (λ _. Reaches g w b) [
          | inl below ↦ s.back q p w b (omega arith) (s.opened w q mark) h (λ j x i less most. none j x (keeps.kept j x i most) less most)
          | inr above ↦ s.forward q p w b above (s.opened w q mark) h
        ]

        back-more : (p r a b : ℕ) → r ≤ p → slice_get stack p ≡ Some a → slice_get stack r ≡ Some b → NoBound kept r p → Reaches g a b
        back-more p r a b le h i none = elim (cases_lt p q) as (λ _. Reaches g a b) [
          | inl low ↦ s.back p r a b le h i (λ j x at' less most. let few : x ≤ q = omega arith in none j x (keeps.kept j x at' few) less most)
          | inr high ↦
              reaches-on g a w b (reaches-edge g a last w (leads-to_last p a h) edge)
              (from-next r b i (λ j x at' less most. let few : x ≤ p = omega arith in none j x at' less few))
        ]
