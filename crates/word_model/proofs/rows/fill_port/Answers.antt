use Rattle.design_core.specs.Shape.{IsDeclared}
use Rattle.design_graph.proofs.Declared.{All-signal_at}
use Rattle.word_model.proofs.rows.fill_port.Goals as goal

pub fill_signal-requires-clause-declared : goal.fill_signal-requires-clause-declared
fill_signal-requires-clause-declared c =
    rw c.signal.ensures.bits (All-signal_at (IsDeclared c.args.design.now.wires c.args.design.now.free) c.args.cell.now.ports c.args.name c.requires.ports)
