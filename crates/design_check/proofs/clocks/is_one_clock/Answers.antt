use Rattle.design_core.specs.Shape.{IsDeclared}
use Rattle.design_core.specs.declared.names.PortName.TheVariants.{Clk}
use Rattle.design_graph.proofs.Declared.{All-signal_at}
use Rattle.design_check.proofs.clocks.is_one_clock.Goals as goal

pub is_one_clock_net-requires-clause-left : goal.is_one_clock_net-requires-clause-left
is_one_clock_net-requires-clause-left c = rw c.signal.ensures.bits (All-signal_at (IsDeclared c.args.design.now.wires c.args.design.now.free) c.args.first.now.ports Clk c.requires.first.ports)

pub is_one_clock_net-requires-clause-right : goal.is_one_clock_net-requires-clause-right
is_one_clock_net-requires-clause-right c = rw c.signal-2.ensures.bits (All-signal_at (IsDeclared c.args.design.now.wires c.args.design.now.free) c.args.other.now.ports Clk c.requires.other.ports)
