use Rattle.std.proofs.Common.{◌≡◌, take}
use Rattle.pair_form.specs.Pair.{clause_over}
use Rattle.inv_judge.proofs.asking.say.Given as goal

abbrev pub invariant-loop-lit : goal.invariant-loop-lit
invariant-loop-lit l = l.lits.items ≡ clause_over l.pair l.frame (take l.lit-index l.clause)
