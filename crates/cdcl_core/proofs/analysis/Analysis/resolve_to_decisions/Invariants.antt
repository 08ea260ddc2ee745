use Rattle.std.proofs.Common.{◌≡◌, ◌+◌, ◌*◌, length}
use Rattle.unit_propagation.specs.Propagator.{clauses_of}
use Rattle.cdcl_core.specs.Analysis.{AreMarksListed, Supports}
use Rattle.cdcl_core.proofs.analysis.Analysis.resolve_to_decisions.Given as goal

abbrev pub invariant-loop-taken : goal.invariant-loop-taken
invariant-loop-taken l = record {
  sized : length l.self.seen.items ≡ 2 * l.core.vars + 2;
  listed : AreMarksListed l.core.trail l.base l.fn.self.seen.items l.fn.self.lower.items l.fn.self.current.items → AreMarksListed l.core.trail l.base l.self.seen.items l.self.lower.items l.self.current.items;
  supports : Supports (clauses_of l.core.slots) l.core.trail l.root l.fn.self.seen.items → Supports (clauses_of l.core.slots) l.core.trail l.root l.self.seen.items;
}
