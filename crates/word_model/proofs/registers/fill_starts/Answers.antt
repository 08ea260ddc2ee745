use Rattle.std.proofs.Common.{◌≡◌, ◌∙◌, ◌≤◌, ℕ, [], List, length, drop, ap, sym, arith}
use Rattle.design_core.specs.Asked.{output_of}
use Rattle.design_core.specs.Shape.{IsDeclared}
use Rattle.design_graph.proofs.Declared.{outputs-declared}
use Rattle.design_graph.proofs.EdgeSteps.{left-head, left-tail}
use Rattle.word_model.proofs.Digits.{digits-end, no-digits, next-at, next-digits, next-within}
use Rattle.word_model.proofs.registers.fill_starts.Goals as goal

pub bits-init : goal.bits-init
bits-init c =
    let none : c.clear.new.self.items ≡ [] = c.clear.ensures.items in
    record {
      declared = rw (c.new-left.ensures, c.output.ensures.bits) (outputs-declared c.args.flat.now.wires c.args.flat.now.free c.args.cell.now c.requires);
      at = c.new-left.ensures ∙ (c.output.ensures.bits ∙ ap (λ (n : ℕ). drop n (output_of c.args.cell.now)) (sym (ap length none)));
      within = (let zero : length c.clear.new.self.items ≡ 0 = ap length none in omega (arith, zero));
      each = no-digits c.args.flat.now c.args.cell.now c.clear.new.self.items none;
    }

pub bits-preserved : goal.bits-preserved
bits-preserved c =
    let d = c.args.flat.now in
    let bit = c.in-Some.bit in
    record {
      declared = left-tail (IsDeclared d.wires d.free) c.bits.left bit c.next.new.self c.in-Some.ensures.some c.bits.invariant.declared;
      at = rw c.in_ok-push.ensures.items (next-at d c.args.cell.now c.bits.digits.items c.bits.left c.bits.invariant.at bit c.next.new.self c.in-Some.ensures.some c.start.result);
      within = rw c.in_ok-push.ensures.items (next-within d c.args.cell.now c.bits.digits.items c.bits.left c.bits.invariant.at bit c.next.new.self c.in-Some.ensures.some c.start.result);
      each =
          rw c.in_ok-push.ensures.items
          (next-digits d c.args.cell.now c.bits.digits.items c.bits.left c.bits.invariant.at bit c.next.new.self c.in-Some.ensures.some c.start.result c.start.ensures.register c.bits.invariant.each);
    }

pub returns : goal.returns
returns c = λ i cell register.
    digits-end c.args.flat.now c.args.cell.now c.bits.digits.items c.bits.left c.bits.invariant.at c.bits.invariant.within c.in_default.ensures.none.0 c.bits.invariant.each i cell register
