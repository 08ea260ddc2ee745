use Rattle.std.proofs.Common.{◌≡◌, ◌∙◌, ◌+◌, ◌++◌, ◌<◌, Bool, true, false, not, Some, length, get_or, map, ap, sym, subst, arith}
use Rattle.std.specs.Prelude.{slice_get}
use Rattle.std.specs.List.{filter, list_any, range_with_len}
use Rattle.std.proofs.lemmas.Bool.{true≢false}
use Rattle.std.proofs.lemmas.Option.{slice_get-get_or, get_or_from_slice_get}
use Rattle.design_core.specs.Places.{place_of}
use Rattle.design_core.specs.Shape.{IsDeclared, WireOf}
use Rattle.design_core.proofs.Lists.{item_at, one_at}
use Rattle.design_core.proofs.Places.{place_of-within}
use Rattle.design_graph.proofs.Counts.{wires-few}
use Rattle.design_meaning.specs.States.{given, is_wire_bit}
use Rattle.design_signals.specs.declared.sig_bit.SigBit.TheVariants.{Wire}
use Rattle.design_states.proofs.Giving.{tested, untested}
use Rattle.design_states.proofs.Listing.{passes-next, fails-next}
use Rattle.design_states.proofs.input_bits.push_open.Goals as goal
use Rattle.design_states.proofs.input_bits.push_open.Goals.{After-width-width, then-not-marks-first+in_ok-push, else-not-marks-first}

wire : (c : After-width-width) → slice_get c.args.design.now.wires c.args.wire ≡ Some c.index-wires-wire.result
wire c =
    let lt : c.args.wire < length c.wires-wires.result.now = rw c.wires-wires.ensures.wires c.requires.wire in
    rw c.wires-wires.ensures.wires at (item_at c.wires-wires.result.now c.args.wire c.index-wires-wire.result c.index-wires-wire.is lt)

pub overflow_cast-number : goal.overflow_cast-number
overflow_cast-number c = omega (arith, wires-few c.args.design.now c.wires-wires.ensures.design, c.wires-wires.ensures.design.bits, c.requires.wire)

pub loop-bit-preserved : goal.loop-bit-preserved
loop-bit-preserved c =
    let x = (goal.at.loop-bit-preserved c).After-width-width in
    let d = c.args.design.now in
    let w0 = c.args.wire in
    let b = c.loop-bit.bit in
    let lt : c.loop-bit.bit < c.index-wires-wire.result.width = omega (arith, c.loop-bit-test.true, c.width-width.ensures) in
    let declared : IsDeclared c.args.design.now.wires c.args.design.now.free (Wire c.args.wire c.loop-bit.bit) = (c.index-wires-wire.result, wire x, lt) in
    let at : c.offset-first.result + c.loop-bit.bit ≡ place_of c.args.design.now (Wire c.args.wire c.loop-bit.bit) = omega (arith, c.offset-first.ensures.offset) in
    let within : c.offset-first.result + c.loop-bit.bit < length c.args.marks.now = omega (arith, at, place_of-within d (Wire c.args.wire c.loop-bit.bit) declared, c.requires.marks.size) in
    let both = c.requires.marks.given_bits (Wire c.args.wire c.loop-bit.bit) declared in
    elim c.if-not-marks-first.branch as (λ _. c.if-not-marks-first.bits.items ≡ c.args.bits.now.items ++ map (λ n. Wire c.args.wire n) (filter (λ n. not (list_any (is_wire_bit c.args.wire n) (given c.args.design.now))) (range_with_len 0 (c.loop-bit.bit + 1)))) [
      | then-not-marks-first+in_ok-push w ↦
          let free = untested w0 b (given d)
          (λ h. true≢false (sym (get_or_from_slice_get c.args.marks.now (place_of d (Wire c.args.wire c.loop-bit.bit)) true false (both.1 h)) ∙ (ap (λ n. get_or c.args.marks.now n false) (sym at) ∙ w.if-not-marks-first.true))) in
          rw (w.bits-is, w.in_ok-push.ensures.items)
          (passes-next (λ n. Wire c.args.wire n) (λ n. not (list_any (is_wire_bit c.args.wire n) (given c.args.design.now))) c.args.bits.now.items c.loop-bit.bits.items b c.loop-bit.invariant (ap not free))
      | else-not-marks-first w ↦
          let marked = slice_get-get_or c.args.marks.now (c.offset-first.result + c.loop-bit.bit) false within ∙ ap (λ (t : Bool). Some t) w.if-not-marks-first.false in
          let there = subst (λ n. slice_get c.args.marks.now n ≡ Some true) at marked in
          rw w.bits-is
          (fails-next (λ n. Wire c.args.wire n) (λ n. not (list_any (is_wire_bit c.args.wire n) (given c.args.design.now))) c.args.bits.now.items c.loop-bit.bits.items b c.loop-bit.invariant
          (ap not (tested w0 b (given d) (both.0 there))))
    ]

pub returns : goal.returns
returns c = λ y at.
    let x = (goal.at.returns c).After-width-width in
    let d = c.args.design.now in
    let same : c.index-wires-wire.result ≡ y = one_at d.wires c.args.wire c.index-wires-wire.result y (wire x) at in
    let width = ap (λ (e : WireOf). e.width) same in
    let end : c.loop-bit.bit ≡ y.width = omega (arith, c.loop-bit-test.false, c.loop-bit.auto.bit-end, c.width-width.ensures, width) in
    c.loop-bit.invariant
    ∙ ap (λ n. c.args.bits.now.items ++ map (λ m. Wire c.args.wire m) (filter (λ m. not (list_any (is_wire_bit c.args.wire m) (given c.args.design.now))) (range_with_len 0 n))) end
