use Rattle.std.proofs.Common.{◌≡◌, map, take}
use Rattle.net_pair.specs.Pairing.{bit_by}
use Rattle.net_pair.proofs.cycles.bits_of.Given as goal

abbrev pub invariant-loop-bit : goal.invariant-loop-bit
invariant-loop-bit l = l.lits.items ≡ map (bit_by l.net) (take l.bit-index l.bits)
