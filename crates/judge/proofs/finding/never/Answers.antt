use Rattle.judge.proofs.Truth.{never_found}
use Rattle.judge.proofs.finding.never.Goals as goal

pub invariant_of-result : goal.invariant_of-result
invariant_of-result c = never_found c.args.problem.now _ _ _ c.flat-flat.ensures.problem c.requires c.in_ok-text.ensures c.mode.ensures c.span.ensures
