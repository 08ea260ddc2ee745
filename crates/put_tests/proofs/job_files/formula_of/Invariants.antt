use Rattle.std.proofs.Common.{◌≡◌}
use Rattle.put_tests.proofs.job_files.formula_of.Given as goal

abbrev pub invariant-loop-number : goal.invariant-loop-number
invariant-loop-number g l =
    let source = g.S.ClauseSource in
    record {
      vars : l.formula.vars ≡ (source.formula l.source).vars;
      place : source.at l.source l.place l.number;
    }
