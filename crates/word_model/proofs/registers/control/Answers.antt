use Rattle.design_core.specs.Shape.{IsDeclared}
use Rattle.design_graph.proofs.Declared.{All-signal_at}
use Rattle.word_model.proofs.registers.control.Goals as goal

pub bit_place-requires-clause-declared : goal.bit_place-requires-clause-declared
bit_place-requires-clause-declared c =
    rw c.signal.ensures.bits (All-signal_at (IsDeclared c.args.design.now.wires c.args.design.now.free) c.args.cell.now.ports c.args.port c.requires.cell.ports)
