use Rattle.std.proofs.Common.{refl}
use Rattle.design_core.specs.Ports.{names_parameter, parameter_number}
use Rattle.design_core.specs.declared.parts.Parameter.{Parameter}
use Rattle.design_core.proofs.Finding.{distinct-push, all-push}
use Rattle.design_core.proofs.cell.Cell.push_parameter.Goals as goal

pub invariant_of-self-2 : goal.invariant_of-self-2
invariant_of-self-2 c =
    let absent = rw (← c.self.view_is) at c.requires.once in
    let asked = rw (← c.self.view_is) at c.requires.named in
    record {
      parameters = rw c.in_ok-push.ensures.items (distinct-push (λ (p : Parameter). parameter_number p.name) _ (parameter_number c.args.name) refl c.self.inside.parameters.items c.self.invariant.parameters absent);
      ports = c.self.invariant.ports;
      named = rw c.in_ok-push.ensures.items (all-push (λ (p : Parameter). names_parameter c.self.inside.kind p.name) _ c.self.inside.parameters.items c.self.invariant.named asked);
    }
