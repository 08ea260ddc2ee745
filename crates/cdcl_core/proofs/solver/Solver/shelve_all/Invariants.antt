use Rattle.cdcl_core.specs.Searching.{IsSolver, IsAtRest, Moves}
use Rattle.cdcl_core.proofs.solver.Solver.shelve_all.Given as goal

abbrev pub invariant-loop-k : goal.invariant-loop-k
invariant-loop-k l = record {
  solver : IsSolver l.self;
  rest : IsAtRest l.self;
  moves : Moves l.fn.self l.self;
}
