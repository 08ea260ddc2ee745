use Rattle.cdcl_core.specs.Searching.{IsSolver, IsIndexed, Grows}
use Rattle.cdcl_core.proofs.solver.Solver.add_resolvents.Given as goal

abbrev pub invariant-loop : goal.invariant-loop
invariant-loop g l = record {
  solver : IsSolver l.self;
  indexed : IsIndexed l.self.core l.index;
  grows : Grows g.L.Log.takes g.L.Log.faults l.budget l.fn.self l.self l.fn.log l.log;
}
