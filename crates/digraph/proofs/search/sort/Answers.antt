use Rattle.std.proofs.Common.{◌<◌, length, replicate, refl, arith}
use Rattle.digraph.proofs.Ends.{State-none, IsSorted-end, none-done}
use Rattle.digraph.proofs.Leaders.{Led-none}
use Rattle.digraph.specs.declared.search.Mark.TheVariants.{New}
use Rattle.digraph.proofs.search.sort.Goals as goal

pub loop-node-init : goal.loop-node-init
loop-node-init c =
    let e = c.in_ok-search.ensures in
    record {
      state = rw (c.in_ok-search.ensures.marks, c.in_ok-search.ensures.cursors, c.in_ok-search.ensures.cyclic, c.in_ok-search.ensures.empty.0, c.in_ok-search.ensures.empty.1, c.in_ok-search.ensures.empty.3)
          (State-none c.args.graph.now);
      led = rw (c.in_ok-search.ensures.marks, c.in_ok-search.ensures.leaders)
          (Led-none c.args.graph.now (replicate (length c.args.graph.now) New) (length c.args.graph.now) refl (none-done (length c.args.graph.now)));
      path = e.empty.2;
      seen = λ a lt h. absurd (omega arith);
    }

pub returns : goal.returns
returns c =
    let s = c.loop-node.search in
    IsSorted-end c.args.graph.now s.marks.items s.cursors.items s.stack.items s.bounds.items s.order.items s.cyclic.items c.loop-node.invariant.state s.leaders.items c.loop-node.invariant.led
    (λ a lt. let less : a < c.loop-node.node = omega (arith, c.loop-node-test.false) in c.loop-node.invariant.seen a less)
