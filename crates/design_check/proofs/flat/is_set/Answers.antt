use Rattle.std.proofs.Common.{◌∙◌, List, ap, sym}
use Rattle.design_core.specs.Cells.{is_set}
use Rattle.design_core.specs.Shape.{IsDeclared}
use Rattle.design_meaning.specs.Meaning.{bit_in, row_in}
use Rattle.design_meaning.specs.Runs.{valuation_of}
use Rattle.design_signals.specs.declared.sig_bit.SigBit.{SigBit}
use Rattle.design_graph.proofs.EdgeSteps.{left-head, left-tail}
use Rattle.design_check.proofs.Statements.{set-front, set-later}
use Rattle.design_check.proofs.flat.is_set.Goals as goal

pub bits-init : goal.bits-init
bits-init c = record {
  declared = rw c.new-left.ensures c.requires.declared;
  same = ap (λ (l : List SigBit). is_set (row_in (valuation_of c.args.design.now c.args.cycle.now) l)) c.new-left.ensures;
}

pub bit_in-requires-clause-declared : goal.bit_in-requires-clause-declared
bit_in-requires-clause-declared c =
    left-head (IsDeclared c.args.design.now.wires c.args.design.now.free) c.bits.left c.in-Some.bit c.next.new.self c.in-Some.ensures.some c.bits.invariant.declared

pub returns-then-bit_in : goal.returns-then-bit_in
returns-then-bit_in c =
    let v = valuation_of c.args.design.now c.args.cycle.now in
    sym (set-front (bit_in v) c.bits.left c.in-Some.bit c.next.new.self c.in-Some.ensures.some (sym c.if-bit_in.ensures)) ∙ c.bits.invariant.same

pub bits-preserved : goal.bits-preserved
bits-preserved c =
    let v = valuation_of c.args.design.now c.args.cycle.now in
    record {
      declared = left-tail (IsDeclared c.args.design.now.wires c.args.design.now.free) c.bits.left c.in-Some.bit c.next.new.self c.in-Some.ensures.some c.bits.invariant.declared;
      same = sym (set-later (bit_in v) c.bits.left c.in-Some.bit c.next.new.self c.in-Some.ensures.some (sym c.if-bit_in.ensures)) ∙ c.bits.invariant.same;
    }

pub returns : goal.returns
returns c = ap (λ (l : List SigBit). is_set (row_in (valuation_of c.args.design.now c.args.cycle.now) l)) (sym c.in_default.ensures.none.0) ∙ c.bits.invariant.same
