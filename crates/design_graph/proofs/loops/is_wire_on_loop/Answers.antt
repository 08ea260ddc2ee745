use Rattle.std.proofs.Common.{◌≡◌, inl, inr, ◌<◌, ◌+◌, ◌∙◌, ℕ, Bool, true, false, Some, length, get_or, refl, ap, sym, subst, arith}
use Rattle.std.specs.Prelude.{slice_get}
use Rattle.std.proofs.lemmas.Bool.{true≢false, false≢true, cases_lt}
use Rattle.std.proofs.lemmas.Option.{slice_get-get_or, get_or_from_slice_get}
use Rattle.design_core.specs.Shape.{WireOf, IsDeclared}
use Rattle.design_core.specs.Places.{place_of}
use Rattle.design_signals.specs.declared.sig_bit.SigBit.TheVariants.{Wire}
use Rattle.design_core.proofs.Lists.{item_at, one_at}
use Rattle.design_core.proofs.Places.{place_of-within}
use Rattle.design_graph.proofs.loops.is_wire_on_loop.Goals as goal
use Rattle.design_graph.proofs.Looping.{loop-declared}
use Rattle.design_graph.proofs.Counts.{wires-few}
use Rattle.design_graph.proofs.loops.is_wire_on_loop.Goals.{After-width-width}

wire : (c : After-width-width) → slice_get c.args.design.now.wires c.args.wire ≡ Some c.index-wires-wire.result
wire c =
    let lt : c.args.wire < length c.wires-wires.result.now = rw c.wires-wires.ensures.wires c.requires.wire in
    rw c.wires-wires.ensures.wires at (item_at c.wires-wires.result.now c.args.wire c.index-wires-wire.result c.index-wires-wire.is lt)

pub overflow_cast-wire : goal.overflow_cast-wire
overflow_cast-wire c = omega (arith, wires-few c.args.design.now c.wires-wires.ensures.design, c.wires-wires.ensures.design.bits, c.requires.wire)

pub returns-then-cyclic-first : goal.returns-then-cyclic-first
returns-then-cyclic-first c =
    let x = (goal.at.returns-then-cyclic-first c).After-width-width in
    let lt : c.loop-bit.bit < c.index-wires-wire.result.width = omega (arith, c.loop-bit-test.true, c.width-width.ensures) in
    let declared : IsDeclared c.args.design.now.wires c.args.design.now.free (Wire c.args.wire c.loop-bit.bit) = (c.index-wires-wire.result, wire x, lt) in
    let at : c.offset-first.result + c.loop-bit.bit ≡ place_of c.args.design.now (Wire c.args.wire c.loop-bit.bit) = omega (arith, c.offset-first.ensures.offset) in
    let within : c.offset-first.result + c.loop-bit.bit < length c.args.cyclic.now =
    omega (arith, at, place_of-within c.args.design.now (Wire c.args.wire c.loop-bit.bit) declared, c.requires.looped.size) in
    let marked = slice_get-get_or c.args.cyclic.now (c.offset-first.result + c.loop-bit.bit) false within ∙ ap (λ (b : Bool). Some b) c.if-cyclic-first.true in
    let there = subst (λ (n : ℕ). slice_get c.args.cyclic.now n ≡ Some true) at marked in
    (λ _. (c.loop-bit.bit, (c.requires.looped.bits (Wire c.args.wire c.loop-bit.bit) declared).0 there), λ _. refl)

pub loop-bit-preserved : goal.loop-bit-preserved
loop-bit-preserved c = λ k lt h.
    elim (cases_lt k c.loop-bit.bit) as (λ _. ⊥) [
      | inl less ↦ c.loop-bit.invariant k less h
      | inr more ↦
          let declared = loop-declared c.args.design.now c.wires-wires.ensures.design c.args.wire k h in
          let at = (c.requires.looped.bits (Wire c.args.wire k) declared).1 h in
          let here : place_of c.args.design.now (Wire c.args.wire k) ≡ c.offset-first.result + c.loop-bit.bit = omega (arith, c.offset-first.ensures.offset) in
          true≢false (sym (get_or_from_slice_get c.args.cyclic.now (place_of c.args.design.now (Wire c.args.wire k)) true false at) ∙ (ap (λ (n : ℕ). get_or c.args.cyclic.now n false) here ∙ c.if-cyclic-first.false))
    ]

pub returns : goal.returns
returns c =
    let x = (goal.at.returns c).After-width-width in (
      λ h. absurd (false≢true h),
      λ h.
          let declared = loop-declared c.args.design.now c.wires-wires.ensures.design c.args.wire h.0 h.1 in
          let same : declared.0.width ≡ c.index-wires-wire.result.width =
          ap (λ (w : WireOf). w.width) (one_at c.args.design.now.wires c.args.wire declared.0 c.index-wires-wire.result declared.1 (wire x)) in
          let lt : h.0 < c.loop-bit.bit = omega (arith, declared.2, same, c.loop-bit-test.false, c.width-width.ensures) in
          absurd (c.loop-bit.invariant h.0 lt h.1),
    )
