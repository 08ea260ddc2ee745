use Rattle.std.proofs.Common.{◌∙◌, List, ap}
use Rattle.std.specs.List.{list_any}
use Rattle.design_core.specs.Ports.{is_port, port_number}
use Rattle.design_core.specs.Shape.{CellOf}
use Rattle.design_core.specs.declared.parts.Port.{Port}
use Rattle.design_core.proofs.Lists.{item_at}
use Rattle.design_lower.proofs.Distinct.{distinct-take}
use Rattle.design_lower.proofs.copies.copy_ports.Goals as goal

pub push_port-requires : goal.push_port-requires
push_port-requires c =
    let p = c.index-ports-place.result in
    let at = item_at c.args.ports.now c.loop-place.place c.index-ports-place.result c.index-ports-place.is c.loop-place-test.true in
    ap (λ (l : List Port). list_any (λ (q : Port). is_port q.name c.index-ports-place.result.name) l) (ap (λ (x : CellOf). x.ports) c.loop-place.invariant)
    ∙ distinct-take (λ (q : Port). port_number q.name) c.args.ports.now c.loop-place.place p c.requires.once at
