use Rattle.std.proofs.Common.{subst}
use Rattle.net_unroll.specs.Clauses.{IsEncoding}
use Rattle.net_text.proofs.Giving.{formula_within}
use Rattle.net_text.proofs.clauses.EncodedClausesClauseSource.count.Goals as goal

pub returns-clause-within : goal.returns-clause-within
returns-clause-within c = formula_within c.args.self.now (subst IsEncoding c.self.view_is c.promise.ensures)
