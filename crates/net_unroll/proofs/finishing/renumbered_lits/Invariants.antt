use Rattle.std.proofs.Common.{◌≡◌, ℕ, Bool, take, map}
use Rattle.net_unroll.specs.Encoding.{renumbered}
use Rattle.net_unroll.specs.Finishing.{HasNumbers}
use Rattle.net_unroll.proofs.finishing.renumbered_lits.Given as goal

abbrev pub invariant-loop-lit : goal.invariant-loop-lit
invariant-loop-lit l = (test : ℕ → Bool) → HasNumbers l.numbers test → l.new.items ≡ map (renumbered test) (take l.lit-index l.lits)
