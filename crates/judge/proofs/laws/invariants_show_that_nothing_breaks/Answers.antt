use Rattle.judge.proofs.Inductive.{never_broken}
use Rattle.judge.proofs.laws.invariants_show_that_nothing_breaks.Goals as goal

pub returns : goal.returns
returns c = λ p I h w invariant. never_broken p h w I invariant
