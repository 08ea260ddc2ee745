use Rattle.std.proofs.Common.{◌≡◌, length, take}
use Rattle.net_pair.specs.Pairing.{digits}
use Rattle.net_pair.proofs.cycles.digit_count.Given as goal

abbrev pub invariant-loop-state : goal.invariant-loop-state
invariant-loop-state l = l.count ≡ length (digits 0 (take l.state-index l.states))
