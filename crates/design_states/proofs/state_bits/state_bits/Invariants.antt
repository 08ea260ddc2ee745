use Rattle.std.proofs.Common.{◌≡◌, ◌++◌, map, drop}
use Rattle.std.specs.List.{flat_map, enumerate_from}
use Rattle.design_meaning.specs.States.{state_bits, state_of}
use Rattle.design_states.specs.Bits.{state_bit}
use Rattle.design_states.proofs.state_bits.state_bits.Given as goal

abbrev pub invariant-loop-place : goal.invariant-loop-place
invariant-loop-place l = map state_bit l.bits.items ++ flat_map state_of (enumerate_from l.place (drop l.place l.design.cells)) ≡ state_bits l.design
