use Rattle.std.proofs.Common.{refl}
use Rattle.design_core.specs.Ports.{port_number}
use Rattle.design_core.specs.declared.parts.Port.{Port}
use Rattle.design_core.proofs.Finding.{distinct-push}
use Rattle.design_core.proofs.cell.Cell.push_port.Goals as goal

pub invariant_of-self-2 : goal.invariant_of-self-2
invariant_of-self-2 c =
    let absent = rw (← c.self.view_is) at c.requires in
    record {
      ports = rw c.in_ok-push.ensures.items (distinct-push (λ (p : Port). port_number p.name) _ (port_number c.args.name) refl c.self.inside.ports.items c.self.invariant.ports absent);
      parameters = c.self.invariant.parameters;
      named = c.self.invariant.named;
    }
