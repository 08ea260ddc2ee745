use Rattle.judge.proofs.Streams.{found_sat, found_unsat}
use Rattle.judge.proofs.laws.found_fates_tell_what_can_be_solved.Goals as goal

pub returns-clause-sat : goal.returns-clause-sat
returns-clause-sat c = λ p job kind file stream most h own fate. found_sat p h job kind file stream most own fate

pub returns-clause-unsat : goal.returns-clause-unsat
returns-clause-unsat c = λ p job kind file stream most h own fate. found_unsat p h job kind file stream most own fate
