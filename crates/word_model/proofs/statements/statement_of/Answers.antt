use Rattle.design_core.specs.Shape.{IsDeclared}
use Rattle.design_core.specs.declared.names.PortName.TheVariants.{A, En}
use Rattle.design_graph.proofs.Declared.{All-signal_at}
use Rattle.word_model.proofs.statements.statement_of.Goals as goal

pub bit_place-requires-clause-declared : goal.bit_place-requires-clause-declared
bit_place-requires-clause-declared c = rw c.signal.ensures.bits (All-signal_at (IsDeclared c.args.design.now.wires c.args.design.now.free) c.args.cell.now.ports A c.requires.ports)

pub bit_place-requires-2-clause-declared : goal.bit_place-requires-2-clause-declared
bit_place-requires-2-clause-declared c = rw c.signal-2.ensures.bits (All-signal_at (IsDeclared c.args.design.now.wires c.args.design.now.free) c.args.cell.now.ports En c.requires.ports)
