use Rattle.std.proofs.Common.{◌≡◌, map, take}
use Rattle.witness_judge.specs.Choosing.{input_slot}
use Rattle.witness_judge.proofs.slots.input_slots.Given as goal

abbrev pub invariant-loop-row : goal.invariant-loop-row
invariant-loop-row l = l.slots ≡ map input_slot (take l.row l.inputs)
