use Rattle.std.proofs.Common.{sym, subst}
use Rattle.design_trace.specs.Coming.{IsPlace}
use Rattle.design_trace.proofs.Coming.{scope_line}
use Rattle.design_trace.proofs.vcd_lines.Line.scope.Goals as goal

pub returns-clause-next : goal.returns-clause-next
returns-clause-next c = λ rows. subst (IsPlace c.args.design.now rows) (sym c.naming.ensures.next) (c.declaration_place.ensures.place rows)

pub returns-clause-text : goal.returns-clause-text
returns-clause-text c = λ rows. scope_line c.args.design.now rows _ _ _ _ _ c.name.ensures c.of.ensures.text (c.naming.ensures.text rows) c.naming.ensures.next (c.declaration_place.ensures.text rows)
