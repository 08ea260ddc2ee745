use Rattle.std.proofs.Common.{◌≡◌, ◌+◌, ◌<◌, ◌∙◌, subst, sym}
use Rattle.gate_graph.specs.Circuit.{GatesOf}
use Rattle.gate_graph.proofs.Keeping.{IsKept-input}
use Rattle.gate_graph.proofs.gates.Gates.input.Goals as goal

pub invariant_of-self-2 : goal.invariant_of-self-2
invariant_of-self-2 c =
    let i = c.self.inside in
    let room = subst (λ (g : GatesOf). g.formula.vars < g.most) (sym c.self.view_is) (c.is_full.ensures.room.0 c.if-is_full.false) in
    let v : c.var.result ≡ i.vars + 1 = c.var.ensures ∙ c.new-input.ensures.var in
    rw (c.in-Ok.ensures.items, v) (IsKept-input i.vars i.most i.inputs.items i.kept c.self.invariant room)
