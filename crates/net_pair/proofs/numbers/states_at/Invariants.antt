use Rattle.std.proofs.Common.{◌≡◌, map, take}
use Rattle.net_pair.specs.Numbers.{state_by}
use Rattle.net_pair.proofs.numbers.states_at.Given as goal

abbrev pub invariant-loop-place : goal.invariant-loop-place
invariant-loop-place l = l.bits.items ≡ map (state_by l.table.items) (take l.place-index l.places)
