use Rattle.std.proofs.Common.{◌≡◌, ◌<◌, ◌+◌, ◌∙◌, ℕ, List, [], ◌∷◌, ◌++◌, Some, length, refl, ap, arith, length-append}
use Rattle.digraph.specs.Search.{Closing, Leading}
use Rattle.digraph.specs.declared.search.Mark.TheVariants.{Open}
use Rattle.digraph.proofs.Lists.{get-below}
use Rattle.digraph.proofs.Closings.{Closing-start, Closing-next, here, old-here, cyclic-there}
use Rattle.digraph.proofs.Leaders.{Leading-start, Leading-next}
use Rattle.std.specs.Prelude.{slice_get}
use Rattle.digraph.proofs.search.close.Goals as goal
use Rattle.digraph.proofs.search.close.Goals.{In-Some}

pub loop-search-init : goal.loop-search-init
loop-search-init c = record {
  closing = Closing-start c.args.on_cycle c.args.place c.args.search.now.marks.items c.args.search.now.stack.items c.args.search.now.order.items c.args.search.now.cyclic.items
      c.requires.opened c.requires.stacked c.requires.finished c.requires.ordered;
  leading = Leading-start c.args.leader c.args.search.now.marks.items c.args.search.now.stack.items c.args.search.now.leaders.items c.requires.opened;
  most = omega (arith, c.requires.place);
  cursors = refl;
  bounds = refl;
  path = refl;
}

-- the component as it is before the node is done
closing : (c : In-Some) → Closing c.args.on_cycle c.args.place c.args.search.now.marks.items c.loop-search.search.marks.items c.args.search.now.stack.items
    (c.pop.new.self.items ++ c.in-Some.node ∷ []) c.args.search.now.order.items c.loop-search.search.order.items c.args.search.now.cyclic.items c.loop-search.search.cyclic.items
closing c = rw (← c.in-Some.ensures.items) c.loop-search.invariant.closing

leading : (c : In-Some) → Leading c.args.leader c.args.search.now.marks.items (c.pop.new.self.items ++ c.in-Some.node ∷ []) c.args.search.now.leaders.items c.loop-search.search.leaders.items
leading c = rw (← c.in-Some.ensures.items) c.loop-search.invariant.leading

old-node : (c : In-Some) → slice_get c.args.search.now.marks.items c.in-Some.node ≡ Some (Open (length c.pop.new.self.items))
old-node c = old-here c.args.on_cycle c.args.place c.args.search.now.marks.items c.args.search.now.stack.items c.args.search.now.order.items c.args.search.now.cyclic.items
    c.requires.opened c.requires.stacked c.loop-search.search.marks.items c.pop.new.self.items c.loop-search.search.order.items c.loop-search.search.cyclic.items c.in-Some.node (closing c) c.requires.cyclic

pub index_mut-requires : goal.index_mut-requires
index_mut-requires c =
    let x = (goal.at.index_mut-requires c).In-Some in
    let at = here c.args.on_cycle c.args.place c.args.search.now.marks.items c.args.search.now.stack.items c.args.search.now.order.items c.args.search.now.cyclic.items
    c.requires.opened c.requires.stacked c.loop-search.search.marks.items c.pop.new.self.items c.loop-search.search.order.items c.loop-search.search.cyclic.items c.in-Some.node (closing x) c.requires.cyclic in
    let lt : c.in-Some.node < length c.loop-search.search.marks.items = get-below c.loop-search.search.marks.items c.in-Some.node (Open (length c.pop.new.self.items)) at in
    omega (arith, lt, c.loop-search.search.marks.ok.0)

pub index_mut-requires-in-loop-search : goal.index_mut-requires-in-loop-search
index_mut-requires-in-loop-search c =
    let x = (goal.at.index_mut-requires-in-loop-search c).In-Some in
    let at = cyclic-there c.args.on_cycle c.args.place c.args.search.now.marks.items c.args.search.now.stack.items c.args.search.now.order.items c.args.search.now.cyclic.items
    c.requires.opened c.requires.stacked c.loop-search.search.marks.items c.pop.new.self.items c.loop-search.search.order.items c.loop-search.search.cyclic.items c.in-Some.node (closing x) c.requires.cyclic in
    let lt : c.in-Some.node < length c.loop-search.search.cyclic.items = get-below c.loop-search.search.cyclic.items c.in-Some.node at.0 at.1 in
    omega (arith, lt, c.loop-search.search.cyclic.ok.0)

pub index_mut-requires-in-loop-search-2 : goal.index_mut-requires-in-loop-search-2
index_mut-requires-in-loop-search-2 c =
    let x = (goal.at.index_mut-requires-in-loop-search-2 c).In-Some in
    let lt = get-below c.args.search.now.marks.items c.in-Some.node (Open (length c.pop.new.self.items)) (old-node x) in
    omega (arith, lt, c.requires.leaders, c.loop-search.invariant.leading.size, c.loop-search.search.leaders.ok.0)

pub loop-search-preserved : goal.loop-search-preserved
loop-search-preserved c =
    let x = (goal.at.loop-search-preserved c).In-Some in
    let next = Closing-next c.args.on_cycle c.args.place c.args.search.now.marks.items c.args.search.now.stack.items c.args.search.now.order.items c.args.search.now.cyclic.items
    c.requires.opened c.requires.stacked c.loop-search.search.marks.items c.pop.new.self.items c.loop-search.search.order.items c.loop-search.search.cyclic.items c.in-Some.node (closing x) c.requires.cyclic in
    let inv = c.loop-search.invariant in
    let more : length c.loop-search.search.stack.items ≡ length c.pop.new.self.items + 1 = ap (λ (l : List ℕ). length l) c.in-Some.ensures.items ∙ length-append c.pop.new.self.items (c.in-Some.node ∷ []) in
    let rank : c.len-in-loop-search.result ≡ length c.loop-search.search.order.items = omega (arith, c.len-in-loop-search.ensures, c.loop-search.search.order.ok.0) in
    let less : c.args.place < length c.loop-search.search.stack.items = omega (arith, c.loop-search-test.true, c.len.ensures, c.loop-search.search.stack.ok.0) in
    record {
      closing = rw (c.in_ok-push.ensures.items, rank) next;
      leading = Leading-next c.args.leader c.args.search.now.marks.items c.args.search.now.stack.items c.pop.new.self.items c.args.search.now.leaders.items c.loop-search.search.leaders.items
          c.in-Some.node (leading x) (old-node x) c.requires.opened c.requires.leaders;
      most = omega (arith, more, less);
      cursors = inv.cursors;
      bounds = inv.bounds;
      path = inv.path;
    }
