use Rattle.std.proofs.Common.{take}
use Rattle.unit_propagation.specs.Propagation.{IsFixpoint}
use Rattle.unit_propagation.specs.Propagator.{clauses_of}
use Rattle.cdcl_core.proofs.thaw.are_settled.Given as goal

abbrev pub invariant-loop-k : goal.invariant-loop-k
invariant-loop-k l = record { done : IsFixpoint l.core.trail (clauses_of (take l.k l.frozen.slots)) }
