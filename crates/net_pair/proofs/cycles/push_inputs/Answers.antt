use Rattle.std.proofs.Common.{◌≡◌, ◌+◌, ap, ◌∙◌, arith}
use Rattle.gate_graph.specs.Circuit.{GatesOf}
use Rattle.net_pair.proofs.Laying.{with_inputs_vars}
use Rattle.net_pair.proofs.cycles.push_inputs.Goals as goal

pub input-requires : goal.input-requires
input-requires c =
    let v : c.loop.circuit.formula.vars ≡ c.args.circuit.now.formula.vars + c.loop.counter = ap (λ (g : GatesOf). g.formula.vars) c.loop.invariant ∙ with_inputs_vars c.args.circuit.now c.loop.counter in
    let t = c.loop-test.true in
    let r = c.requires in
    omega arith
