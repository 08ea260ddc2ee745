use Rattle.std.proofs.Common.{◌≡◌, take}
use Rattle.bit_net.specs.Reaching.{nexts}
use Rattle.net_unroll.proofs.cycles.nexts_of.Given as goal

abbrev pub invariant-loop-var : goal.invariant-loop-var
invariant-loop-var l = l.lits.items ≡ nexts l.net (take l.var-index l.places)
