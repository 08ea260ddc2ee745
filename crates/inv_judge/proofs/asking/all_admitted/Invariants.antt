use Rattle.std.proofs.Common.{◌≡◌, take}
use Rattle.pair_form.specs.Pair.{clauses_over}
use Rattle.inv_fate.specs.Fate.{AreAdmitted}
use Rattle.inv_judge.proofs.asking.all_admitted.Given as goal

abbrev pub invariant-loop-place : goal.invariant-loop-place
invariant-loop-place l = record {
  same : l.checker ≡ l.fn.checker;
  admitted : AreAdmitted l.fn.checker.clauses (clauses_over l.pair l.frame (take l.place l.clauses));
}
