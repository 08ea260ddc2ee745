use Rattle.std.proofs.Common.{◌+◌, ◌<◌, ℕ, List, length, get_or, sym, ap, ◌∙◌, subst, arith}
use Rattle.gate_graph.specs.declared.gate.Gate.{Gate}
use Rattle.gate_graph.specs.Folding.{operands}
use Rattle.gate_graph.specs.Kept.{OthersWithin, circuit_with}
use Rattle.net_pair.specs.Pairing.{before_gates, gate_at}
use Rattle.net_pair.proofs.Laying.{gates_step}
use Rattle.net_pair.proofs.Placing.{before_few, cycle_room, gate_within, place_at}
use Rattle.net_pair.proofs.cycles.push_cycle.Goals as goal

pub gate-requires-clause-room : goal.gate-requires-clause-room
gate-requires-clause-room c =
    let l = ap length c.gates-gate-items.ensures in
    let t = c.loop-gate-test.true in
    let inside : c.loop-gate.gate-index < length c.args.net.now.gates = omega arith in
    let v = cycle_room c.args.net.now c.args.frame c.args.circuit.now c.loop-gate.circuit c.loop-gate.gate-index c.requires.vars c.loop-gate.invariant inside in
    let b = before_few c.args.net.now c.args.frame in
    let r = c.requires.room in
    omega arith

pub gate-requires-clause-within : goal.gate-requires-clause-within
gate-requires-clause-within c =
    let l = ap length c.gates-gate-items.ensures in
    let t = c.loop-gate-test.true in
    let inside : c.loop-gate.gate-index < length c.args.net.now.gates = omega arith in
    let v = cycle_room c.args.net.now c.args.frame c.args.circuit.now c.loop-gate.circuit c.loop-gate.gate-index c.requires.vars c.loop-gate.invariant inside in
    let at = place_at c.args.net.now.gates c.loop-gate.gate-index c.gate-item.result inside (c.gate-item.is ∙ ap (λ (xs : List Gate). get_or xs c.loop-gate.gate-index c.gate-item.result) c.gates-gate-items.ensures) in
    subst (λ (n : ℕ). OthersWithin n (operands c.gate_at.result)) (sym v)
    (subst (λ (g : Gate). OthersWithin (before_gates c.args.net.now c.args.frame + c.loop-gate.gate-index) (operands g)) (sym c.gate_at.ensures)
    (gate_within c.args.net.now c.args.frame c.loop-gate.gate-index c.gate-item.result c.promise.ensures (omega arith) (c.promise.ensures.gates c.loop-gate.gate-index c.gate-item.result at)))

pub loop-gate-preserved : goal.loop-gate-preserved
loop-gate-preserved c =
    let l = ap length c.gates-gate-items.ensures in
    let t = c.loop-gate-test.true in
    let inside : c.loop-gate.gate-index < length c.args.net.now.gates = omega arith in
    gates_step c.args.circuit.now c.loop-gate.circuit c.gate.new.self (gate_at c.args.net.now c.args.frame) c.args.net.now.gates c.loop-gate.gate-index c.gate-item.result inside
    (c.gate-item.is ∙ ap (λ (xs : List Gate). get_or xs c.loop-gate.gate-index c.gate-item.result) c.gates-gate-items.ensures) c.loop-gate.invariant
    (c.in_ok-gate.ensures.new ∙ ap (circuit_with c.loop-gate.circuit) c.gate_at.ensures)
