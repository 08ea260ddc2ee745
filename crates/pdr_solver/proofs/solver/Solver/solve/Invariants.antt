use Rattle.std.proofs.Common.{◌-◌, ◌≤◌}
use Rattle.pdr_solver.proofs.solver.Solver.solve.Given as goal

abbrev pub invariant-loop-conflicts : goal.invariant-loop-conflicts
invariant-loop-conflicts l = l.conflicts ≤ l.most

abbrev pub decreases-loop-conflicts : goal.decreases-loop-conflicts
decreases-loop-conflicts l = l.most - l.conflicts
