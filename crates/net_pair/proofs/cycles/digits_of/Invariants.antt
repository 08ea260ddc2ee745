use Rattle.std.proofs.Common.{◌≡◌, take}
use Rattle.net_pair.specs.Pairing.{digits}
use Rattle.net_pair.proofs.cycles.digits_of.Given as goal

abbrev pub invariant-loop-place : goal.invariant-loop-place
invariant-loop-place l = l.lits.items ≡ digits 0 (take l.place l.states)
