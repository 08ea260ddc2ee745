use Rattle.cnf_form.proofs.Arenas.{clause_read, clause_contained}
use Rattle.cnf_form.proofs.formula.Clauses.get.Goals as goal

pub returns-clause-clause : goal.returns-clause-clause
returns-clause-clause c = clause_read _ _ _ _ _ c.self.view_is c.requires

pub returns-clause-within : goal.returns-clause-within
returns-clause-within c = clause_contained _ _ _ _ _ c.self.view_is c.requires
