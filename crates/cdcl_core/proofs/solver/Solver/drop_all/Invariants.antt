use Rattle.cdcl_core.specs.Searching.{Reduces}
use Rattle.cdcl_core.proofs.solver.Solver.drop_all.Given as goal

abbrev pub invariant-loop-k : goal.invariant-loop-k
invariant-loop-k g l = Reduces g.L.Log.takes g.L.Log.faults l.fn.self l.self l.fn.log l.log
