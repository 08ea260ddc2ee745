use Rattle.std.proofs.Common.{◌-◌, length}
use Rattle.design_trace.proofs.Readings.{CyclesRead}
use Rattle.design_trace.proofs.reading.rows.Given as goal

abbrev pub invariant-cycles : goal.invariant-cycles
invariant-cycles l = CyclesRead l.design l.bytes l.rows.items l.at l.number

abbrev pub decreases-cycles : goal.decreases-cycles
decreases-cycles l = length l.bytes - l.at
