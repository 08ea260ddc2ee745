use Rattle.std.proofs.Common.{◌≡◌, take}
use Rattle.net_unroll.specs.Program.{moves}
use Rattle.net_unroll.proofs.cycles.moves_of.Given as goal

abbrev pub invariant-loop-var : goal.invariant-loop-var
invariant-loop-var l = l.moves.items ≡ moves l.net (take l.var-index l.places)
