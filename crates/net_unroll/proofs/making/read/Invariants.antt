use Rattle.std.proofs.Common.{◌≡◌, map, take}
use Rattle.net_unroll.specs.Making.{over}
use Rattle.net_unroll.proofs.making.read.Given as goal

abbrev pub invariant-loop-lit : goal.invariant-loop-lit
invariant-loop-lit l = l.lits.items ≡ map (λ m. over l.table m.1) (take l.lit-index l.moves)
