use Rattle.std.proofs.Common.{◌≡◌, ◌⊎◌, inl, inr, ◌<◌, ◌≤◌, ◌+◌, ◌-◌, ◌∙◌, ℕ, suc, List, [], ◌∷◌, ◌++◌, Some, length, refl, sym, ap, subst, arith, length-append}
use Rattle.std.specs.Prelude.{slice_get}
use Rattle.std.proofs.lemmas.Bool.{false≢true, cases_lt}
use Rattle.digraph.specs.Graph.{HasEdge}
use Rattle.digraph.specs.declared.search.Mark.TheVariants.{Open}
use Rattle.digraph.proofs.Lists.{get-below, get-push-new, item-at, one-at}
use Rattle.digraph.proofs.Leaving.{some-bound, begins-none, State-leave, State-close}
use Rattle.digraph.proofs.Leaders.{Led-close}
use Rattle.digraph.proofs.Works.{work-leave}
use Rattle.digraph.proofs.search.leave.Goals as goal
use Rattle.digraph.proofs.search.leave.Goals.{In-Open, Then-index-place}

many-from : (n t size : ℕ) (E : Type 0) → n + t ≡ size → (1 < n) ⊎ E → (t + 1 < size) ⊎ E
many-from n t size E e (inl h) = inl (omega arith)
many-from n t size E e (inr h) = inr h

single-from : (n t size : ℕ) (E : Type 0) → n + t ≡ size → ((1 < n) ⊎ E → ⊥) → (size ≤ t + 1) × (E → ⊥)
single-from n t size E e none = (elim (cases_lt (t + 1) size) as (λ _. size ≤ t + 1) [ inl more ↦ absurd (none (inl (omega arith))) | inr most ↦ most ], λ h. none (inr h))

marked : (c : In-Open) → slice_get c.args.search.now.marks.items c.args.last ≡ Some (Open c.in-Open.place)
marked c =
    let lt : c.args.last < length c.args.search.now.marks.items = omega (arith, c.requires.state.marks_size, c.requires.last) in
    item-at c.args.search.now.marks.items c.args.last c.index.result.now c.index.ensures lt ∙ ap Some c.in-Open.is

bounds-some : (c : In-Open) → 0 < length c.args.search.now.bounds.items
bounds-some c =
    let s = c.args.search.now in
    some-bound c.args.graph.now s.marks.items s.cursors.items s.stack.items s.bounds.items s.path.items s.order.items s.cyclic.items c.args.last c.requires.state c.in-Open.place (marked c)
    (λ b e. c.requires.looked_at c.in-Open.place b (marked c) e)

on_stack : (c : In-Open) → c.in-Open.place < length c.args.search.now.stack.items
on_stack c = get-below c.args.search.now.stack.items c.in-Open.place c.args.last (c.requires.state.opened c.args.last c.in-Open.place (marked c))

pub overflow_sub-len : goal.overflow_sub-len
overflow_sub-len c = omega (arith, bounds-some (goal.at.overflow_sub-len c).In-Open, c.len.ensures, c.args.search.now.bounds.ok.0)

pub index-requires-2 : goal.index-requires-2
index-requires-2 c = omega (arith, bounds-some (goal.at.index-requires-2 c).In-Open, c.len.ensures, c.args.search.now.bounds.ok.0)

top-other : (c : Then-index-place) → c.index-2.result.now ≡ c.in-Open.place → ⊥
top-other c = c.if-index-place.true

pub returns-then-index-place : goal.returns-then-index-place
returns-then-index-place c =
    let x = (goal.at.returns-then-index-place c).In-Open in
    let s = c.args.search.now in
    let some = bounds-some x in
    let size : c.len.result ≡ length c.args.search.now.bounds.items = omega (arith, c.len.ensures, c.args.search.now.bounds.ok.0) in
    let lt : c.len.result - 1 < length c.args.search.now.bounds.items = omega arith in
    let top = item-at c.args.search.now.bounds.items (c.len.result - 1) c.index-2.result.now c.index-2.ensures lt in
    let end : suc (c.len.result - 1) ≡ length c.args.search.now.bounds.items = omega arith in
    let none = begins-none c.args.graph.now s.marks.items s.cursors.items s.stack.items s.bounds.items s.path.items s.order.items s.cyclic.items c.args.last c.requires.state c.in-Open.place (marked x)
    (λ b e. c.requires.looked_at c.in-Open.place b (marked x) e) (c.len.result - 1) c.index-2.result.now end top (top-other c) in
    record {
      state = State-leave c.args.graph.now s.marks.items s.cursors.items s.stack.items s.bounds.items s.path.items s.order.items s.cyclic.items c.args.last c.requires.state c.in-Open.place (marked x)
          (λ b e. c.requires.looked_at c.in-Open.place b (marked x) e) none;
      led = c.requires.led;
      less = work-leave c.args.graph.now s.marks.items s.marks.items s.cursors.items s.path.items c.args.last refl;
      seen = λ a h. h;
    }

pub overflow_sub-len-2 : goal.overflow_sub-len-2
overflow_sub-len-2 c = omega (arith, on_stack (goal.at.overflow_sub-len-2 c).In-Open, c.len-2.ensures, c.args.search.now.stack.ok.0)

pub close-requires-clause-place : goal.close-requires-clause-place
close-requires-clause-place c = on_stack (goal.at.close-requires-clause-place c).In-Open

pub unreachable-requires-in_default-pop : goal.unreachable-requires-in_default-pop
unreachable-requires-in_default-pop c =
    false≢true (c.in_default-pop.ensures.variant.1 (omega (arith, bounds-some (goal.at.unreachable-requires-in_default-pop c).In-Open, c.args.search.now.bounds.ok.0)))

pub returns : goal.returns
returns c =
    let x = (goal.at.returns c).In-Open in
    let s = c.args.search.now in
    let below : List ℕ = c.pop.new.self.items in
    let some = bounds-some x in
    let size : c.len.result ≡ length c.args.search.now.bounds.items = omega (arith, c.len.ensures, c.args.search.now.bounds.ok.0) in
    let lt : c.len.result - 1 < length c.args.search.now.bounds.items = omega arith in
    let top = item-at c.args.search.now.bounds.items (c.len.result - 1) c.index-2.result.now c.index-2.ensures lt in
    let more : length c.args.search.now.bounds.items ≡ length c.pop.new.self.items + 1 = ap (λ (l : List ℕ). length l) c.in-Some.ensures.items ∙ length-append c.pop.new.self.items (c.in-Some.field-0 ∷ []) in
    let end : c.len.result - 1 ≡ length c.pop.new.self.items = omega arith in
    let last : slice_get c.args.search.now.bounds.items (c.len.result - 1) ≡ Some c.in-Some.field-0 =
    subst (λ (n : ℕ). slice_get c.args.search.now.bounds.items n ≡ Some c.in-Some.field-0) (sym end)
    (subst (λ (l : List ℕ). slice_get l (length c.pop.new.self.items) ≡ Some c.in-Some.field-0) (sym c.in-Some.ensures.items) (get-push-new c.pop.new.self.items c.in-Some.field-0)) in
    let bound : c.in-Some.field-0 ≡ c.in-Open.place = sym (one-at c.args.search.now.bounds.items (c.len.result - 1) c.index-2.result.now c.in-Some.field-0 top last) ∙ c.if-index-place.false in
    let is : c.args.search.now.bounds.items ≡ c.pop.new.self.items ++ c.in-Open.place ∷ [] = c.in-Some.ensures.items ∙ ap (λ (n : ℕ). c.pop.new.self.items ++ n ∷ []) bound in
    let height : c.len-2.result ≡ length c.args.search.now.stack.items = omega (arith, c.len-2.ensures, c.args.search.now.stack.ok.0) in
    let there = on_stack x in
    let f = c.is_on_cycle-on_cycle in
    let state = State-close c.args.graph.now s.marks.items s.cursors.items s.stack.items s.bounds.items s.path.items s.order.items s.cyclic.items c.args.last c.requires.state c.in-Open.place (marked x)
    (λ b e. c.requires.looked_at c.in-Open.place b (marked x) e) below is f.result
    (λ h. many-from (c.len-2.result - c.in-Open.place) c.in-Open.place (length s.stack.items) (HasEdge c.args.graph.now c.args.last c.args.last) (omega arith) (f.ensures.0 h))
    (λ h. single-from (c.len-2.result - c.in-Open.place) c.in-Open.place (length s.stack.items) (HasEdge c.args.graph.now c.args.last c.args.last) (omega arith)
    (λ e. false≢true (sym h ∙ f.ensures.1 e)))
    c.close.new.search.marks.items c.close.new.search.stack.items c.close.new.search.order.items c.close.new.search.cyclic.items c.in_ok-close.ensures.closing c.in_ok-close.ensures.stack in
    record {
      state = rw (c.in_ok-close.ensures.cursors, c.in_ok-close.ensures.bounds, c.in_ok-close.ensures.path) state;
      led = Led-close c.args.graph.now s.marks.items s.cursors.items s.stack.items s.bounds.items s.path.items s.order.items s.cyclic.items c.args.last c.requires.state c.in-Open.place (marked x)
          (λ b e. c.requires.looked_at c.in-Open.place b (marked x) e) s.leaders.items c.requires.led f.result c.close.new.search.marks.items c.close.new.search.stack.items
          c.close.new.search.order.items c.close.new.search.cyclic.items c.in_ok-close.ensures.closing c.in_ok-close.ensures.stack c.close.new.search.leaders.items c.in_ok-close.ensures.leading;
      less = rw (c.in_ok-close.ensures.cursors, c.in_ok-close.ensures.path)
          (work-leave c.args.graph.now s.marks.items c.close.new.search.marks.items s.cursors.items s.path.items c.args.last c.in_ok-close.ensures.closing.same_news);
      seen = λ a h. c.in_ok-close.ensures.closing.still_new a h;
    }
