use Rattle.std.proofs.Common.{◌≡◌, List, subst, sym, arith}
use Rattle.digraph.specs.Graph.{Extends}
use Rattle.design_core.specs.Shape.{IsDeclared}
use Rattle.design_graph.specs.Edges.{IsPlaceIn}
use Rattle.design_signals.specs.declared.sig_bit.SigBit.{SigBit}
use Rattle.design_graph.proofs.EdgeSteps.{to-step, left-tail}
use Rattle.design_graph.proofs.edges.add_to.Goals as goal

pub bits-init : goal.bits-init
bits-init c = record {
  declared = rw c.new-left.ensures c.requires.bits;
  nodes = c.requires.nodes;
  later = λ k e. rw (← c.new-left.ensures) e;
}

pub bits-preserved : goal.bits-preserved
bits-preserved c =
    let d = c.args.design.now in
    record {
      declared = left-tail (IsDeclared d.wires d.free) c.bits.left c.in-Some.bit c.next.new.self c.in-Some.ensures.some c.bits.invariant.declared;
      nodes = omega (arith, c.bits.invariant.nodes, c.in_ok-add_edge.ensures.ok.size);
      later = λ k e.
          let P : List SigBit → Type 0 = λ l. Extends c.bits.graph (λ p q. IsPlaceIn d l p × (q ≡ c.args.node)) k in
          c.bits.invariant.later k
          (subst P (sym c.in-Some.ensures.some)
          (to-step d c.in-Some.bit c.next.new.self c.bits.graph c.add_edge.new.graph k c.args.node c.place.result c.place.ensures.place c.in_ok-add_edge.ensures.ok e));
    }
