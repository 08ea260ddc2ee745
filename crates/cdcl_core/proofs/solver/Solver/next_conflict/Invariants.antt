use Rattle.std.proofs.Common.{◌≡◌, ◌≤◌, length}
use Rattle.unit_propagation.specs.Propagator.{clauses_of}
use Rattle.cdcl_core.specs.Searching.{IsSolver, Leads}
use Rattle.cdcl_core.proofs.solver.Solver.next_conflict.Given as goal

abbrev pub invariant-loop-solved : goal.invariant-loop-solved
invariant-loop-solved g l = record {
  solver : IsSolver l.self;
  leads : Leads g.L.Log.takes g.L.Log.faults l.fn.self l.self l.fn.log l.log;
  conflicts : l.self.conflicts ≡ l.fn.self.conflicts;
  few : length (clauses_of l.self.frozen.slots) ≤ length (clauses_of l.fn.self.frozen.slots);
}

abbrev pub decreases-loop-solved : goal.decreases-loop-solved
decreases-loop-solved g l = length (clauses_of l.self.frozen.slots)
