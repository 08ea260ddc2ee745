-- The leaders of components.
use Rattle.std.proofs.Common.{◌≡◌, ◌⊎◌, ℕ, ◌≤◌, Bool, List, [], ◌∷◌, ◌++◌, Some, refl, sym, ap, ◌∙◌, subst, inl, inr, arith, set, length, length-set, replicate}
use Rattle.std.proofs.lemmas.Bool.{cases_lt}
use Rattle.std.proofs.lemmas.List.{length-replicate}
use Rattle.std.specs.Prelude.{slice_get}
use Rattle.digraph.specs.Graph.{Graph, HasEdge, Reaches}
use Rattle.digraph.specs.Search.{State, IsDone, IsPassed, Closing, Led, Leading}
use Rattle.digraph.specs.declared.search.Mark.{Mark}
use Rattle.digraph.specs.declared.search.Mark.TheVariants.{New, Open, Done}
use Rattle.digraph.proofs.Lists.{get-set-same, get-set-other, get-below, get-at, set-cases, one-at, length-push}
use Rattle.digraph.proofs.Scanning.{same-open}
use Rattle.digraph.proofs.Leaving.{reach-each, done-on}

open-done : (i j : ℕ) → Some (Open i) ≡ Some (Done j) → ⊥
open-done i j e = cc

pub Led-none : (g : Graph) (marks : List Mark) (n : ℕ) → n ≡ length g → ((a i : ℕ) → slice_get marks a ≡ Some (Done i) → ⊥) → Led g marks (replicate n 0)
Led-none g marks n e none = record {
  size = length-replicate n 0 ∙ e;
  leader_done = λ a i l h. absurd (none a i h);
  own = λ a i l h. absurd (none a i h);
  led = λ a i b j l h. absurd (none a i h);
  one = λ a i b j h. absurd (none a i h);
}

pub Led-enter : (g : Graph) (marks : List Mark) (leaders : List ℕ) (w p : ℕ) → slice_get marks w ≡ Some New → Led g marks leaders → Led g (set marks w (Open p)) leaders
Led-enter g marks leaders w p new s = record {
  size = s.size;
  leader_done = λ a i l h k. let d = s.leader_done a i l (was a i h) k in (d.0, get-set-other marks w l (Open p) (not-new l d.0 d.1) ∙ d.1);
  own = λ a i l h. s.own a i l (was a i h);
  led = λ a i b j l h k. s.led a i b j l (was a i h) (was b j k);
  one = λ a i b j h k. s.one a i b j (was a i h) (was b j k);
}
  where
    not-new : (a i : ℕ) → slice_get marks a ≡ Some (Done i) → a ≡ w → ⊥
    not-new a i h e = clash (sym new ∙ (ap (λ (x : ℕ). slice_get marks x) (sym e) ∙ h))
      where
        clash : Some New ≡ Some (Done i) → ⊥
        clash f = cc

    was : (a i : ℕ) → slice_get (set marks w (Open p)) a ≡ Some (Done i) → slice_get marks a ≡ Some (Done i)
    was a i h = elim (set-cases marks w a (Open p) (Done i) New new h) as (λ _. slice_get marks a ≡ Some (Done i)) [
      | inl same ↦ absurd (let e : Done i ≡ Open p = same.1 in cc)
      | inr other ↦ other.1
    ]

module _ (g : Graph) (marks : List Mark) (cursors stack bounds front order : List ℕ) (cyclic : List Bool) (last : ℕ)
    (s : State g marks cursors stack bounds (front ++ last ∷ []) order cyclic) (t : ℕ) (at : slice_get marks last ≡ Some (Open t))
    (looked_at : (b : ℕ) → HasEdge g last b → IsPassed marks bounds t b) (leaders : List ℕ) (led : Led g marks leaders)
    (f : Bool) (later : List Mark) (stack' order' : List ℕ) (cyclic' : List Bool) (c : Closing f t marks later stack stack' order order' cyclic cyclic')
    (size : length stack' ≡ t) (leaders' : List ℕ) (l : Leading last marks stack' leaders leaders') where
  -- what is done now was done before, or is of the component
  abbrev IsOld : ℕ → ℕ → Type 0
  IsOld a i = (slice_get marks a ≡ Some (Done i)) ⊎ ((p : ℕ) × (t ≤ p) × (slice_get marks a ≡ Some (Open p)))

  was : (a i : ℕ) → slice_get later a ≡ Some (Done i) → IsOld a i
  was a i h = elim (c.now_done a i h) as (λ _. IsOld a i) [ inl old ↦ inl old | inr new ↦ inr (new.0, omega (arith, new.1, size), new.2) ]

  led-now : (a p : ℕ) → t ≤ p → slice_get marks a ≡ Some (Open p) → slice_get leaders' a ≡ Some last
  led-now a p le h = l.now a p (omega (arith, size)) h

  not-done : (a i p : ℕ) → slice_get marks a ≡ Some (Open p) → IsDone marks a → ⊥
  not-done a i p h d = open-done p d.0 (sym h ∙ d.1)

  same-number : (x y : ℕ) → Some x ≡ Some y → x ≡ y
  same-number x y e = cc

  mixed : (a i b p m : ℕ) → slice_get marks a ≡ Some (Done i) → t ≤ p → slice_get marks b ≡ Some (Open p) → slice_get leaders' a ≡ Some m → slice_get leaders' b ≡ Some m → ⊥
  mixed a i b p m h le k ha hb =
      let d = led.leader_done a i m h (sym (l.still a i h) ∙ ha) in
      let e : m ≡ last = same-number m last (sym hb ∙ led-now b p le k) in
      open-done t d.0 (sym at ∙ (ap (λ (x : ℕ). slice_get marks x) (sym e) ∙ d.1))

  led-left : (a i b j m : ℕ) → IsOld a i → IsOld b j → slice_get leaders' a ≡ Some m → slice_get leaders' b ≡ Some m → Reaches g a b
  led-left a i b j m (inl h) (inl k) ha hb = led.led a i b j m h k (sym (l.still a i h) ∙ ha) (sym (l.still b j k) ∙ hb)
  led-left a i b j m (inl h) (inr k) ha hb = absurd (mixed a i b k.0 m h k.1 k.2 ha hb)
  led-left a i b j m (inr h) (inl k) ha hb = absurd (mixed b j a h.0 m k h.1 h.2 hb ha)
  led-left a i b j m (inr h) (inr k) ha hb =
      reach-each g marks cursors stack bounds front order cyclic last s t at looked_at h.0 k.0 a b h.1 k.1 (s.opened a h.0 h.2) (s.opened b k.0 k.2)

  one-left : (a i b j : ℕ) → IsOld a i → IsOld b j → Reaches g a b → Reaches g b a → slice_get leaders' a ≡ slice_get leaders' b
  one-left a i b j (inl h) (inl k) to from = l.still a i h ∙ (led.one a i b j h k to from ∙ sym (l.still b j k))
  one-left a i b j (inl h) (inr k) to from = absurd (not-done b j k.0 k.2 (done-on g marks cursors stack bounds front order cyclic last s t at looked_at to.0 a b to.1 (i, h)))
  one-left a i b j (inr h) (inl k) to from = absurd (not-done a i h.0 h.2 (done-on g marks cursors stack bounds front order cyclic last s t at looked_at from.0 b a from.1 (j, k)))
  one-left a i b j (inr h) (inr k) to from = led-now a h.0 h.1 h.2 ∙ sym (led-now b k.0 k.1 k.2)

  leader-left : (a i m : ℕ) → IsOld a i → slice_get leaders' a ≡ Some m → IsDone later m
  leader-left a i m (inl h) k = let d = led.leader_done a i m h (sym (l.still a i h) ∙ k) in (d.0, (c.still_done m d.0 d.1).0)
  leader-left a i m (inr h) k =
      let e : m ≡ last = same-number m last (sym k ∙ led-now a h.0 h.1 h.2) in
      subst (λ (x : ℕ). IsDone later x) (sym e) (c.done last t (omega (arith, size)) at)

  own-left : (a i m : ℕ) → IsOld a i → slice_get leaders' a ≡ Some m → Reaches g a m × Reaches g m a
  own-left a i m (inl h) k = led.own a i m h (sym (l.still a i h) ∙ k)
  own-left a i m (inr h) k =
      let e : m ≡ last = same-number m last (sym k ∙ led-now a h.0 h.1 h.2) in
      let here = s.opened a h.0 h.2 in
      let there = s.opened last t at in
      let to = reach-each g marks cursors stack bounds front order cyclic last s t at looked_at h.0 t a last h.1 (omega arith) here there in
      let from = reach-each g marks cursors stack bounds front order cyclic last s t at looked_at t h.0 last a (omega arith) h.1 there here in
      subst (λ (x : ℕ). Reaches g a x × Reaches g x a) (sym e) (to, from)

  pub Led-close : Led g later leaders'
  Led-close = record {
    size = l.size ∙ led.size;
    leader_done = λ a i m h k. leader-left a i m (was a i h) k;
    own = λ a i m h k. own-left a i m (was a i h) k;
    led = λ a i b j m h k. led-left a i b j m (was a i h) (was b j k);
    one = λ a i b j h k. one-left a i b j (was a i h) (was b j k);
  }

pub Leading-start : (leader : ℕ) (old : List Mark) (stack leaders : List ℕ) → ((a p : ℕ) → slice_get old a ≡ Some (Open p) → slice_get stack p ≡ Some a) → Leading leader old stack leaders leaders
Leading-start leader old stack leaders opened = record {
  size = refl;
  still = λ a i h. refl;
  now = λ a p le h. absurd (omega (arith, get-below stack p a (opened a p h)));
}

pub Leading-next : (leader : ℕ) (old : List Mark) (old_stack rest old_leaders leaders : List ℕ) (node : ℕ) → Leading leader old (rest ++ node ∷ []) old_leaders leaders
    → slice_get old node ≡ Some (Open (length rest)) → ((a p : ℕ) → slice_get old a ≡ Some (Open p) → slice_get old_stack p ≡ Some a) → length old_leaders ≡ length old
    → Leading leader old rest old_leaders (set leaders node leader)
Leading-next leader old old_stack rest old_leaders leaders node l here opened sizes = record {
  size = length-set leaders node leader ∙ l.size;
  still = λ a i h. get-set-other leaders node a leader (λ e. open-done (length rest) i (sym here ∙ (ap (λ (x : ℕ). slice_get old x) (sym e) ∙ h))) ∙ l.still a i h;
  now = λ a p le h. elim (cases_lt (length rest) p) as (λ _. slice_get (set leaders node leader) a ≡ Some leader) [
    | inl above ↦
        get-set-other leaders node a leader
        (λ e. let same : p ≡ length rest = same-open p (length rest) (sym h ∙ (ap (λ (x : ℕ). slice_get old x) e ∙ here)) in absurd (omega arith))
        ∙ l.now a p (omega (arith, length-push rest node)) h
    | inr most ↦
        let e : p ≡ length rest = omega arith in
        let one : a ≡ node = one-at old_stack (length rest) a node (subst (λ (x : ℕ). slice_get old_stack x ≡ Some a) e (opened a p h)) (opened node (length rest) here) in
        let there = get-at leaders node (omega (arith, get-below old node (Open (length rest)) here, l.size, sizes)) in
        ap (λ (x : ℕ). slice_get (set leaders node leader) x) one ∙ get-set-same leaders node leader there.0 there.1
  ];
}
