use Rattle.std.proofs.Common.{◌≡◌, ◌++◌, drop}
use Rattle.std.specs.List.{flat_map, enumerate_from}
use Rattle.design_meaning.specs.States.{open_bits}
use Rattle.design_states.proofs.input_bits.input_bits.Given as goal

abbrev pub invariant-loop-wire : goal.invariant-loop-wire
invariant-loop-wire l = l.bits.items ++ flat_map (open_bits l.design) (enumerate_from l.wire (drop l.wire l.design.wires)) ≡ flat_map (open_bits l.design) (enumerate_from 0 l.design.wires)
