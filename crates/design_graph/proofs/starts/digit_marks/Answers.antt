use Rattle.std.proofs.Common.{◌≡◌, ◌<◌, ◌≤◌, ◌∙◌, List, Bool, false, length, replicate, drop, ap, arith}
use Rattle.design_core.specs.Places.{places}
use Rattle.design_graph.specs.Edges.{IsDigitAt}
use Rattle.design_graph.proofs.EdgeSteps.{written-back}
use Rattle.design_graph.proofs.MarkSets.{Before-next, Before-end, WireAt}
use Rattle.design_graph.proofs.Starting.{IsDigitMarks-built}
use Rattle.design_graph.proofs.starts.digit_marks.Goals as goal
use Rattle.std.proofs.lemmas.List.{length-replicate}
use Rattle.digraph.proofs.Lists.{get-at}

pub loop-wire-preserved : goal.loop-wire-preserved
loop-wire-preserved c =
    let lt : c.loop-wire.wire < length c.args.design.now.wires = rw c.wires-wire-end.ensures.wires at c.loop-wire-test.true in
    let w = get-at c.args.design.now.wires c.loop-wire.wire lt in
    Before-next c.args.design.now.wires (WireAt c.args.design.now c.args.leaders.now c.args.digit) (replicate (places c.args.design.now) false) c.loop-wire.table c.mark_wire.new.marks c.loop-wire.wire w.0 w.1
    c.loop-wire.invariant c.mark_wire.ensures

pub returns : goal.returns
returns c =
    let most : length c.args.design.now.wires ≤ c.loop-wire.wire = rw c.wires-wire-end.ensures.wires at c.loop-wire-test.false in
    let marks = Before-end c.args.design.now.wires (WireAt c.args.design.now c.args.leaders.now c.args.digit) (replicate (places c.args.design.now) false) c.loop-wire.table c.loop-wire.wire
    (IsDigitAt c.args.design.now c.args.leaders.now c.args.digit) most c.loop-wire.invariant (λ k w p at h. (k, h.0, h.1, h.2)) (λ p t. (t.0, t.2.0, t.2.2, (t.1, t.2, t.3))) in
    let built = IsDigitMarks-built c.args.design.now c.wires-wire-end.ensures.design c.args.leaders.now c.args.digit c.loop-wire.table marks in
    let size : length c.in_ok-marks.marks.items ≡ c.places.result = ap (λ (l : List Bool). length l) c.in_ok-marks.ensures ∙ length-replicate c.places.result false in
    let whole : c.in_ok-marks.marks.len ≡ length c.loop-wire.table = omega (arith, c.in_ok-marks.marks.ok.0, size, c.places.ensures.places, built.size) in
    rw (written-back c.in_ok-marks.marks.len c.loop-wire.table (drop (length c.loop-wire.table) c.in_ok-marks.marks.items) whole) built
