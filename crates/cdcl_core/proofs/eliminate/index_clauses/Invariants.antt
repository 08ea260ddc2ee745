use Rattle.std.proofs.Common.{◌≡◌, take}
use Rattle.unit_propagation.specs.Propagator.{clauses_of}
use Rattle.cdcl_core.proofs.eliminate.index_clauses.Given as goal

abbrev pub invariant-loop-k : goal.invariant-loop-k
invariant-loop-k l = record {
  vars : l.index.vars ≡ l.core.vars;
  slots : clauses_of l.index.slots ≡ clauses_of (take l.k l.core.slots);
}
