use Rattle.judge.proofs.Claims.{found-solved, found-unsolved}
use Rattle.judge.proofs.laws.findings_tell_what_can_be_solved.Goals as goal

pub returns-clause-sat : goal.returns-clause-sat
returns-clause-sat c = found-solved

pub returns-clause-unsat : goal.returns-clause-unsat
returns-clause-unsat c = found-unsolved
