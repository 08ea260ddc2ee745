use Rattle.std.proofs.Common.{◌≡◌, ◌-◌, ◌≤◌}
use Rattle.cdcl_core.specs.Searching.{IsSolver, HasLogged}
use Rattle.cdcl_core.proofs.solver.Solver.search.Given as goal

abbrev pub invariant-loop-self : goal.invariant-loop-self
invariant-loop-self g l = record {
  solver : IsSolver l.self;
  logged : HasLogged g.L.Log.takes l.formula l.fn.log l.log l.self;
  wanted : l.self.ids.wanted ≡ l.fn.self.ids.wanted;
  within : l.self.conflicts ≤ l.budget;
  later : g.L.Log.faults l.fn.log ≤ g.L.Log.faults l.log;
}

abbrev pub decreases-loop-self : goal.decreases-loop-self
decreases-loop-self g l = l.budget - l.self.conflicts
