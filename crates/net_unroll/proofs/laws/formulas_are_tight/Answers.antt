use Rattle.net_unroll.proofs.Tightening.{tight_law, vars_law}
use Rattle.net_unroll.proofs.laws.formulas_are_tight.Goals as goal

pub returns-clause-vars : goal.returns-clause-vars
returns-clause-vars c = λ n a k net few. vars_law n a k net few

pub returns-clause-tight : goal.returns-clause-tight
returns-clause-tight c = λ n a k net few. tight_law n a k net few
