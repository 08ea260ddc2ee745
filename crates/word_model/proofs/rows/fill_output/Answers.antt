use Rattle.design_graph.proofs.Declared.{outputs-declared}
use Rattle.word_model.proofs.rows.fill_output.Goals as goal

pub fill_signal-requires-clause-declared : goal.fill_signal-requires-clause-declared
fill_signal-requires-clause-declared c = rw c.output.ensures.bits (outputs-declared c.args.design.now.wires c.args.design.now.free c.args.cell.now c.requires)
