use Rattle.std.proofs.Common.{◌≡◌, ◌+◌, ◌<◌, ◌∙◌, subst, sym}
use Rattle.cnf_form.specs.declared.literal.TheConstants.{MAX_VARS}
use Rattle.gate_graph.specs.Circuit.{GatesOf}
use Rattle.gate_graph.proofs.Keeping.{IsCircuit-input}
use Rattle.gate_graph.proofs.circuit.Circuit.input.Goals as goal

pub invariant_of-self-2 : goal.invariant_of-self-2
invariant_of-self-2 c =
    let i = c.self.inside in
    let room = subst (λ (g : GatesOf). g.formula.vars < MAX_VARS) (sym c.self.view_is) c.requires in
    let v : c.var.result ≡ i.vars + 1 = c.var.ensures ∙ c.new-input.ensures.var in
    rw (c.in_ok-push.ensures.items, v) (IsCircuit-input i.vars i.formula i.inputs.items c.self.invariant room)
