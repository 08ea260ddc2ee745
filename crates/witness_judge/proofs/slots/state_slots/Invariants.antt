use Rattle.std.proofs.Common.{◌≡◌, map, take}
use Rattle.witness_judge.specs.Choosing.{state_slot}
use Rattle.witness_judge.proofs.slots.state_slots.Given as goal

abbrev pub invariant-loop-state : goal.invariant-loop-state
invariant-loop-state l = l.slots ≡ map state_slot (take l.state-index l.states)
