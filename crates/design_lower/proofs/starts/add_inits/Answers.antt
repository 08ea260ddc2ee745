use Rattle.std.proofs.Common.{◌≡◌, ◌≤◌, ◌<◌, ◌+◌, ℕ, length, arith}
use Rattle.digraph.proofs.Lists.{get-at}
use Rattle.design_core.specs.Places.{offset}
use Rattle.design_meaning.specs.Meaning.{IsInit}
use Rattle.design_graph.proofs.EdgeSteps.{Upto-end, Upto-next, Upto-start}
use Rattle.design_lower.proofs.Ending.{WireEdge}
use Rattle.design_lower.proofs.starts.add_inits.Goals as goal

pub loop-wire-init : goal.loop-wire-init
loop-wire-init c = Upto-start c.args.design.now.wires (WireEdge c.args.design.now c.args.digit c.args.root) c.args.graph.now

pub add_wire-requires-clause-root : goal.add_wire-requires-clause-root
add_wire-requires-clause-root c = omega (arith, c.requires.root, c.loop-wire.invariant.size)

pub loop-wire-preserved : goal.loop-wire-preserved
loop-wire-preserved c =
    let lt : c.loop-wire.wire < length c.args.design.now.wires = rw c.wires-wire-end.ensures.wires at c.loop-wire-test.true in
    let w = get-at c.args.design.now.wires c.loop-wire.wire lt in
    Upto-next c.args.design.now.wires (WireEdge c.args.design.now c.args.digit c.args.root) c.args.graph.now c.loop-wire.graph c.add_wire.new.graph c.loop-wire.wire w.0 w.1
    c.loop-wire.invariant c.in_ok-add_wire.ensures

pub returns : goal.returns
returns c =
    let most : length c.args.design.now.wires ≤ c.loop-wire.wire = rw c.wires-wire-end.ensures.wires at c.loop-wire-test.false in
    Upto-end c.args.design.now.wires (WireEdge c.args.design.now c.args.digit c.args.root) c.args.graph.now c.loop-wire.graph c.loop-wire.wire
    (λ p q. (p ≡ c.args.root) × ((w : ℕ) × (b : ℕ) × IsInit c.args.design.now w b c.args.digit × (q ≡ offset c.args.design.now w + b))) most c.loop-wire.invariant
    (λ k w p q at h. let e = h.1 in (h.0, (k, e.0, e.1, e.2))) (λ p q t. let r = t.1 in (r.0, r.2.0, r.2.2, (t.0, (r.1, r.2, r.3))))
