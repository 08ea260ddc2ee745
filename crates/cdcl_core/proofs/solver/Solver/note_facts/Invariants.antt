use Rattle.std.proofs.Common.{◌≡◌}
use Rattle.cdcl_core.specs.Searching.{Leads}
use Rattle.cdcl_core.proofs.solver.Solver.note_facts.Given as goal

abbrev pub invariant-loop-place : goal.invariant-loop-place
invariant-loop-place g l = record {
  core : l.self.core ≡ l.fn.self.core;
  frozen : l.self.frozen ≡ l.fn.self.frozen;
  pending : l.self.pending ≡ l.fn.self.pending;
  conflicts : l.self.conflicts ≡ l.fn.self.conflicts;
  deletions : l.self.deletions ≡ l.fn.self.deletions;
  analysis : l.self.analysis ≡ l.fn.self.analysis;
  leads : Leads g.L.Log.takes g.L.Log.faults l.fn.self l.self l.fn.log l.log;
}
