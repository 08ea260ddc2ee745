use Rattle.std.proofs.Common.{◌<◌, ◌∙◌, true, List, length, set, sym, subst, arith, length-set}
use Rattle.design_core.specs.Shape.{IsDeclared}
use Rattle.design_graph.specs.Edges.{Marks, IsPlaceIn}
use Rattle.design_signals.specs.declared.sig_bit.SigBit.{SigBit}
use Rattle.design_graph.proofs.Declared.{outputs-declared}
use Rattle.design_graph.proofs.EdgeSteps.{left-tail}
use Rattle.design_graph.proofs.MarkSets.{Marks-set, marks-step}
use Rattle.design_graph.proofs.starts.mark_register.Goals as goal

pub bits-init : goal.bits-init
bits-init c =
    let all = outputs-declared c.args.design.now.wires c.args.design.now.free c.args.cell.now c.requires.cell in
    let same = c.new-left.ensures ∙ c.output.ensures.bits in
    record {
      declared = rw same all;
      size = c.requires.size;
      later = λ m e. rw same at e;
    }

pub bits-preserved : goal.bits-preserved
bits-preserved c =
    let d = c.args.design.now in
    let lt : c.place.result < length c.bits.marks = omega (arith, c.place.ensures.within, c.bits.invariant.size) in
    record {
      declared = left-tail (IsDeclared d.wires d.free) c.bits.left c.in-Some.bit c.next.new.self c.in-Some.ensures.some c.bits.invariant.declared;
      size = omega (arith, length-set c.bits.marks c.place.result true, c.bits.invariant.size);
      later = λ m e.
          let P : List SigBit → Type 0 = λ l. Marks c.bits.marks (IsPlaceIn d l) m in
          c.bits.invariant.later m
          (subst P (sym c.in-Some.ensures.some)
          (marks-step d c.in-Some.bit c.next.new.self c.bits.marks (set c.bits.marks c.place.result true) m c.place.result c.place.ensures.place (Marks-set c.bits.marks c.place.result lt) e));
    }
