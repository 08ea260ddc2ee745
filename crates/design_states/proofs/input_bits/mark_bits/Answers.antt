use Rattle.std.proofs.Common.{◌<◌, true, List, length, set, sym, subst, arith, length-set}
use Rattle.design_core.specs.Shape.{IsDeclared}
use Rattle.design_graph.specs.Edges.{Marks, IsPlaceIn}
use Rattle.design_signals.specs.declared.sig_bit.SigBit.{SigBit}
use Rattle.design_graph.proofs.EdgeSteps.{left-tail}
use Rattle.design_graph.proofs.MarkSets.{Marks-set, marks-step}
use Rattle.design_states.proofs.input_bits.mark_bits.Goals as goal

pub bits-init : goal.bits-init
bits-init c = record {
  declared = rw c.new-left.ensures c.requires.declared;
  size = c.requires.size;
  later = λ m e. rw c.new-left.ensures at e;
}

pub bits-preserved : goal.bits-preserved
bits-preserved c =
    let d = c.args.design.now in
    let lt : c.place.result < length c.bits.marks = omega (arith, c.place.ensures.within, c.bits.invariant.size) in
    record {
      declared = left-tail (IsDeclared d.wires d.free) c.bits.left c.in-Some.bit c.next.new.self c.in-Some.ensures.some c.bits.invariant.declared;
      size = omega (arith, length-set c.bits.marks c.place.result true, c.bits.invariant.size);
      later = λ m e.
          let P : List SigBit → Type 0 = λ l. Marks c.bits.marks (IsPlaceIn d l) m in
          c.bits.invariant.later m
          (subst P (sym c.in-Some.ensures.some)
          (marks-step d c.in-Some.bit c.next.new.self c.bits.marks (set c.bits.marks c.place.result true) m c.place.result c.place.ensures.place (Marks-set c.bits.marks c.place.result lt) e));
    }
