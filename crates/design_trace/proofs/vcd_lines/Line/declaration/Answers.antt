use Rattle.std.proofs.Common.{◌∙◌, ap, sym, subst, get_or}
use Rattle.design_trace.specs.Coming.{IsPlace}
use Rattle.design_trace.proofs.Coming.{declared_line}
use Rattle.design_trace.proofs.vcd_lines.Line.declaration.Goals as goal

pub returns-clause-next : goal.returns-clause-next
returns-clause-next c = λ rows. subst (IsPlace c.args.design.now rows) (sym c.naming.ensures.next) (c.declaration_place.ensures.place rows)

pub returns-clause-text : goal.returns-clause-text
returns-clause-text c =
    let wire = c.index-wires-wire.result in
    let is = c.index-wires-wire.is ∙ ap (λ ws. get_or ws c.args.wire wire) c.wires.ensures.wires in
    λ rows. declared_line c.args.design.now rows c.args.wire wire _ _ _ _ _ _ c.requires is c.width.ensures c.name.ensures c.declared.ensures.text (c.naming.ensures.text rows)
    c.naming.ensures.next (c.declaration_place.ensures.text rows)
