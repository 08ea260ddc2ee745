use Rattle.judge.proofs.Truth.{unsat_found}
use Rattle.judge.proofs.finding.unsat.Goals as goal

pub invariant_of-result : goal.invariant_of-result
invariant_of-result c = unsat_found c.args.problem.now _ _ _ _ c.flat-flat.ensures.problem c.requires c.in_ok-text.ensures c.mode.ensures c.span.ensures
