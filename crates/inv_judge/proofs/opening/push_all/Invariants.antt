use Rattle.std.proofs.Common.{◌≡◌, ◌++◌, take}
use Rattle.pair_form.specs.Pair.{clauses_over}
use Rattle.pair_form.specs.declared.pair.Frame.TheVariants.{First}
use Rattle.inv_judge.proofs.opening.push_all.Given as goal

abbrev pub invariant-loop-place : goal.invariant-loop-place
invariant-loop-place l = record {
  vars : l.formula.vars ≡ l.fn.formula.vars;
  clauses : l.formula.clauses ≡ l.fn.formula.clauses ++ clauses_over l.pair First (take l.place l.clauses);
}
