use Rattle.std.proofs.Common.{◌≡◌, ◌<◌, ◌∙◌, ℕ, List, [], Some, length, sym, ap, subst, arith}
use Rattle.std.specs.Prelude.{slice_get}
use Rattle.digraph.specs.declared.search.Mark.{Mark}
use Rattle.digraph.specs.declared.search.Mark.TheVariants.{New, Open}
use Rattle.digraph.proofs.Lists.{get-below, get-set-same, get-push-new, item-at}
use Rattle.digraph.proofs.Entering.{State-enter}
use Rattle.digraph.proofs.Leaders.{Led-enter}
use Rattle.digraph.proofs.Works.{seen-enter}
use Rattle.digraph.proofs.Ends.{no-leads}
use Rattle.digraph.proofs.search.explore.Goals as goal
use Rattle.digraph.proofs.search.explore.Goals.{After-index}

marked : (c : After-index) → slice_get c.args.search.now.marks.items c.args.start ≡ Some c.index.result.now
marked c =
    let lt : c.args.start < length c.args.search.now.marks.items = omega (arith, c.requires.state.marks_size, c.requires.start) in
    item-at c.args.search.now.marks.items c.args.start c.index.result.now c.index.ensures lt

not-new : (p : ℕ) → Some (Open p) ≡ Some New → ⊥
not-new p e = cc

same-mark : (a b : Mark) → Some a ≡ Some b → a ≡ b
same-mark a b e = cc

pub loop-last-init : goal.loop-last-init
loop-last-init c =
    let s = c.args.search.now in
    let g = c.args.graph.now in
    let new : slice_get c.args.search.now.marks.items c.args.start ≡ Some New = marked (goal.at.loop-last-init c).After-index ∙ ap Some c.in-New.is in
    let next = State-enter g s.marks.items s.cursors.items s.stack.items s.bounds.items [] s.order.items s.cyclic.items c.requires.state c.args.start new
    (no-leads g s.marks.items s.cursors.items s.stack.items s.bounds.items s.order.items s.cyclic.items c.requires.state c.args.start) in
    let e = c.in_ok-enter.ensures in
    record {
      state = rw (
        c.in_ok-enter.ensures.marks,
        c.in_ok-enter.ensures.cursors,
        c.in_ok-enter.ensures.stack,
        c.in_ok-enter.ensures.bounds,
        c.in_ok-enter.ensures.path,
        c.in_ok-enter.ensures.order,
        c.in_ok-enter.ensures.cyclic,
        c.requires.path,
      ) next;
      led = rw (c.in_ok-enter.ensures.marks, c.in_ok-enter.ensures.leaders) (Led-enter g s.marks.items s.leaders.items c.args.start (length s.stack.items) new c.requires.led);
      seen = λ a h. seen-enter s.marks.items c.args.start (length s.stack.items) new a (rw c.in_ok-enter.ensures.marks at h);
      start = λ h. not-new (length s.stack.items)
          (sym (get-set-same s.marks.items c.args.start (Open (length s.stack.items)) New new) ∙ (ap (λ (l : List Mark). slice_get l c.args.start) (sym c.in_ok-enter.ensures.marks) ∙ h));
    }

pub step-requires-clause-last : goal.step-requires-clause-last
step-requires-clause-last c =
    let s = c.loop-last.invariant.state in
    let at : slice_get c.loop-last.search.path.items (length c.pop.new.self.items) ≡ Some c.in-Some.last =
    subst (λ (l : List ℕ). slice_get l (length c.pop.new.self.items) ≡ Some c.in-Some.last) (sym c.in-Some.ensures.items) (get-push-new c.pop.new.self.items c.in-Some.last) in
    let o = s.on_path (length c.pop.new.self.items) c.in-Some.last at in
    omega (arith, get-below c.loop-last.search.marks.items c.in-Some.last (Open o.0) o.1, s.marks_size)

pub returns-in_default : goal.returns-in_default
returns-in_default c = record {
  state = c.requires.state;
  led = c.requires.led;
  path = c.requires.path;
  seen = λ a h. h;
  start = λ h. c.in_default.not-New (same-mark c.index.result.now New (sym (marked (goal.at.returns-in_default c).After-index) ∙ h));
}
