use Rattle.std.proofs.Common.{arith}
use Rattle.std.proofs.lemmas.Result.{err_from_is_err_and}
use Rattle.cdcl_core.specs.Lines.{held_first}
use Rattle.cdcl_core.proofs.Solutions.{held_none, held_stops}
use Rattle.cdcl_core.proofs.Steps.{logged_first}
use Rattle.cdcl_core.proofs.solver.solve.Goals as goal

pub returns-in_err-solver-clause-memory : goal.returns-in_err-solver-clause-memory
returns-in_err-solver-clause-memory g c =
    let f = c.args.formula.now in
    let a = c.args.log.now in
    let p = err_from_is_err_and c.from_residual.result c.from_residual.ensures.1 in
    rw p.1 (held_stops g.L.Log.takes g.L.Log.hinted f c.args.budget a a f.clauses 0 0 (held_first f.clauses) (omega arith) (held_none g.L.Log.takes g.L.Log.hinted f a))

pub search-requires-clause-logged : goal.search-requires-clause-logged
search-requires-clause-logged g c =
    let e = c.in_ok-solver.ensures in
    logged_first g.L.Log.takes c.in_ok-solver.solver c.args.formula.now c.args.log.now e.of e.present e.conflicts e.deletions e.named
