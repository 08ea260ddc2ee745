use Rattle.std.proofs.Common.{◌≡◌, ◌≤◌, [], length}
use Rattle.std.specs.Prelude.{None}
use Rattle.unit_propagation.specs.Propagator.{clauses_of}
use Rattle.cdcl_core.specs.Searching.{IsSolver, Moves}
use Rattle.cdcl_core.proofs.solver.Solver.thaw_unsettled.Given as goal

abbrev pub invariant-loop-k : goal.invariant-loop-k
invariant-loop-k l = record {
  solver : IsSolver l.self;
  count : length l.self.frozen.slots ≡ length l.fn.self.frozen.slots;
  level : l.self.core.limits ≡ [];
  none : l.self.pending ≡ None;
  moves : Moves l.fn.self l.self;
  few : length (clauses_of l.self.frozen.slots) ≤ length (clauses_of l.fn.self.frozen.slots);
}
