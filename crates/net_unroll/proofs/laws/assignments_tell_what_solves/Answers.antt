use Rattle.net_unroll.proofs.Deciding.{few_law, solves_law, told_law}
use Rattle.net_unroll.proofs.laws.assignments_tell_what_solves.Goals as goal

pub returns-clause-some : goal.returns-clause-some
returns-clause-some c = λ n a k net few x. told_law n a k net few x

pub returns-clause-few : goal.returns-clause-few
returns-clause-few c = λ n a k net few x s. few_law n a k net few x s

pub returns-clause-solves : goal.returns-clause-solves
returns-clause-solves c = λ n a k net few x xs s cycles told. solves_law n a k net few x xs s cycles told
