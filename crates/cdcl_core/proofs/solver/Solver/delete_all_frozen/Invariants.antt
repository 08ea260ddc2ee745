use Rattle.std.proofs.Common.{◌≡◌, length}
use Rattle.cdcl_core.specs.Searching.{Reduces}
use Rattle.cdcl_core.proofs.solver.Solver.delete_all_frozen.Given as goal

abbrev pub invariant-loop-k : goal.invariant-loop-k
invariant-loop-k g l = record {
  count : length l.self.frozen.slots ≡ length l.fn.self.frozen.slots;
  reduces : Reduces g.L.Log.takes g.L.Log.faults l.fn.self l.self l.fn.log l.log;
}
