use Rattle.design_graph.proofs.Declared.{outputs-declared}
use Rattle.source_rows.proofs.rows.push_source.Goals as goal

pub fill_row-requires-clause-declared : goal.fill_row-requires-clause-declared
fill_row-requires-clause-declared c = rw c.output.ensures.bits (outputs-declared c.args.design.now.wires c.args.design.now.free c.args.cell.now c.requires)
