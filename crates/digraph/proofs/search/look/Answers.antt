use Rattle.std.proofs.Common.{◌≡◌, inl, inr, ◌<◌, ◌+◌, ◌∙◌, ℕ, List, [], ◌∷◌, ◌++◌, Some, length, set, sym, ap, arith}
use Rattle.std.specs.Prelude.{slice_get}
use Rattle.digraph.specs.Graph.{HasEdge}
use Rattle.digraph.specs.Search.{State}
use Rattle.digraph.specs.declared.search.Mark.TheVariants.{New, Open, Done}
use Rattle.digraph.proofs.Lists.{get-below, item-at}
use Rattle.digraph.proofs.Entering.{State-enter}
use Rattle.digraph.proofs.Scanning.{last-open, leads-to_next, State-scan, State-merge}
use Rattle.digraph.proofs.Leaders.{Led-enter}
use Rattle.digraph.proofs.Works.{work-enter, work-scan, seen-enter}
use Rattle.digraph.proofs.search.look.Goals as goal
use Rattle.digraph.proofs.search.look.Goals.{After-index-mark}

marked : (c : After-index-mark) → slice_get c.args.search.now.marks.items c.args.next ≡ Some c.index-mark.result.now
marked c =
    let lt : c.args.next < length c.args.search.now.marks.items = omega (arith, c.requires.state.marks_size, c.requires.next) in
    item-at c.args.search.now.marks.items c.args.next c.index-mark.result.now c.index-mark.ensures lt

edge : (c : After-index-mark) → HasEdge c.args.graph.now c.args.last c.args.next
edge c = (c.requires.entry.0, c.requires.entry.2)

-- the last node back on the path
state : (c : After-index-mark) → State c.args.graph.now c.args.search.now.marks.items c.args.search.now.cursors.items c.args.search.now.stack.items c.args.search.now.bounds.items
    (c.args.search.now.path.items ++ c.args.last ∷ []) c.args.search.now.order.items c.args.search.now.cyclic.items
state c = c.requires.state

pub returns-in_ok-enter-in-New : goal.returns-in_ok-enter-in-New
returns-in_ok-enter-in-New c =
    let x = (goal.at.returns-in_ok-enter-in-New c).After-index-mark in
    let s = c.args.search.now in
    let g = c.args.graph.now in
    let path : c.push.new.self.items ≡ c.args.search.now.path.items ++ c.args.last ∷ [] = c.in_ok-push.ensures.items in
    let new : slice_get c.args.search.now.marks.items c.args.next ≡ Some New = marked x ∙ ap Some c.in-New.is in
    let at = last-open g s.marks.items s.cursors.items s.stack.items s.bounds.items s.path.items s.order.items s.cyclic.items c.args.last (state x) in
    let next = State-enter g s.marks.items s.cursors.items s.stack.items s.bounds.items (s.path.items ++ c.args.last ∷ []) s.order.items s.cyclic.items (state x) c.args.next new
    (leads-to_next g s.marks.items s.cursors.items s.stack.items s.bounds.items s.path.items s.order.items s.cyclic.items c.args.last (state x) at.0 at.1 c.args.next (edge x)) in
    let less = work-enter g s.marks.items s.cursors.items (s.path.items ++ c.args.last ∷ []) c.args.next (length s.stack.items) new in
    let seen : (a : ℕ) → slice_get (set c.args.search.now.marks.items c.args.next (Open (length c.args.search.now.stack.items))) a ≡ Some New → slice_get c.args.search.now.marks.items a ≡ Some New =
    seen-enter c.args.search.now.marks.items c.args.next (length c.args.search.now.stack.items) new in
    record {
      state = rw (c.in_ok-enter-in-New.ensures.marks, c.in_ok-enter-in-New.ensures.cursors, c.in_ok-enter-in-New.ensures.stack, c.in_ok-enter-in-New.ensures.bounds, c.in_ok-enter-in-New.ensures.path, c.in_ok-enter-in-New.ensures.order, c.in_ok-enter-in-New.ensures.cyclic, path) next;
      less = rw (c.in_ok-enter-in-New.ensures.marks, c.in_ok-enter-in-New.ensures.cursors, c.in_ok-enter-in-New.ensures.path, path) less;
      led = rw (c.in_ok-enter-in-New.ensures.marks, c.in_ok-enter-in-New.ensures.leaders) (Led-enter g s.marks.items s.leaders.items c.args.next (length s.stack.items) new c.requires.led);
      seen = λ a h. seen a (rw c.in_ok-enter-in-New.ensures.marks at h);
    }

pub returns-in-Open : goal.returns-in-Open
returns-in-Open c =
    let x = (goal.at.returns-in-Open c).After-index-mark in
    let s = c.args.search.now in
    let g = c.args.graph.now in
    let entry = c.requires.entry in
    let path : c.push.new.self.items ≡ c.args.search.now.path.items ++ c.args.last ∷ [] = c.in_ok-push.ensures.items in
    let mark : slice_get c.args.search.now.marks.items c.args.next ≡ Some (Open c.in-Open.place) = marked x ∙ ap Some c.in-Open.is in
    let at = last-open g s.marks.items s.cursors.items s.stack.items s.bounds.items s.path.items s.order.items s.cyclic.items c.args.last (state x) in
    let merged = State-merge g s.marks.items s.cursors.items s.stack.items s.bounds.items s.path.items s.order.items s.cyclic.items c.args.last (state x) at.0 at.1
    c.args.next c.in-Open.place c.merge.new.search.bounds.items (edge x) mark c.merge.ensures.bounds in
    let next = State-scan g s.marks.items s.cursors.items s.stack.items c.merge.new.search.bounds.items s.path.items s.order.items s.cyclic.items c.args.last merged at.0 at.1
    entry.0 c.args.next entry.1 entry.2 (inr (c.in-Open.place, mark, λ j y h less most. let w = (c.merge.ensures.bounds.within j y h).1 in absurd (omega arith))) in
    let less = work-scan g s.marks.items s.cursors.items (s.path.items ++ c.args.last ∷ []) c.args.last entry.0 entry.2.0 entry.2.1 entry.1 (get-below entry.2.0.items entry.0 c.args.next entry.2.2) in
    let cursor : set c.args.search.now.cursors.items c.args.last (entry.0 + 1) ≡ c.advance.new.search.cursors.items =
    ap (λ (n : ℕ). set c.args.search.now.cursors.items c.args.last n) (sym entry.3) ∙ (ap (λ (l : List ℕ). set l c.args.last c.args.cursor) (sym c.merge.ensures.cursors) ∙ sym c.advance.ensures.cursors) in
    record {
      state = rw (
        c.advance.ensures.marks,
        c.advance.ensures.stack,
        c.advance.ensures.bounds,
        c.advance.ensures.path,
        c.advance.ensures.order,
        c.advance.ensures.cyclic,
        c.merge.ensures.marks,
        c.merge.ensures.stack,
        c.merge.ensures.path,
        c.merge.ensures.order,
        c.merge.ensures.cyclic,
        path,
        ← cursor,
      ) next;
      less = rw (c.advance.ensures.marks, c.advance.ensures.path, c.merge.ensures.marks, c.merge.ensures.path, path, ← cursor) less;
      led = rw (c.advance.ensures.marks, c.advance.ensures.leaders, c.merge.ensures.marks, c.merge.ensures.leaders) c.requires.led;
      seen = λ a h. rw (c.advance.ensures.marks, c.merge.ensures.marks) at h;
    }

pub returns-in-Done : goal.returns-in-Done
returns-in-Done c =
    let x = (goal.at.returns-in-Done c).After-index-mark in
    let s = c.args.search.now in
    let g = c.args.graph.now in
    let entry = c.requires.entry in
    let path : c.push.new.self.items ≡ c.args.search.now.path.items ++ c.args.last ∷ [] = c.in_ok-push.ensures.items in
    let mark : slice_get c.args.search.now.marks.items c.args.next ≡ Some (Done c.in-Done.field-0) = marked x ∙ ap Some c.in-Done.is in
    let at = last-open g s.marks.items s.cursors.items s.stack.items s.bounds.items s.path.items s.order.items s.cyclic.items c.args.last (state x) in
    let next = State-scan g s.marks.items s.cursors.items s.stack.items s.bounds.items s.path.items s.order.items s.cyclic.items c.args.last (state x) at.0 at.1
    entry.0 c.args.next entry.1 entry.2 (inl (c.in-Done.field-0, mark)) in
    let less = work-scan g s.marks.items s.cursors.items (s.path.items ++ c.args.last ∷ []) c.args.last entry.0 entry.2.0 entry.2.1 entry.1 (get-below entry.2.0.items entry.0 c.args.next entry.2.2) in
    let cursor : set c.args.search.now.cursors.items c.args.last (entry.0 + 1) ≡ c.advance-in-Done.new.search.cursors.items =
    ap (λ (n : ℕ). set c.args.search.now.cursors.items c.args.last n) (sym entry.3) ∙ sym c.advance-in-Done.ensures.cursors in
    let e = c.advance-in-Done.ensures in
    record {
      state = rw (
        c.advance-in-Done.ensures.marks,
        c.advance-in-Done.ensures.stack,
        c.advance-in-Done.ensures.bounds,
        c.advance-in-Done.ensures.path,
        c.advance-in-Done.ensures.order,
        c.advance-in-Done.ensures.cyclic,
        path,
        ← cursor,
      ) next;
      less = rw (c.advance-in-Done.ensures.marks, c.advance-in-Done.ensures.path, path, ← cursor) less;
      led = rw (c.advance-in-Done.ensures.marks, c.advance-in-Done.ensures.leaders) c.requires.led;
      seen = λ a h. rw c.advance-in-Done.ensures.marks at h;
    }
