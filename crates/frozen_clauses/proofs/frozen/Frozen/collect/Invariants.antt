use Rattle.std.proofs.Common.{◌≡◌, take}
use Rattle.unit_propagation.specs.Propagator.{present}
use Rattle.frozen_clauses.proofs.frozen.Frozen.collect.Given as goal

abbrev pub invariant-loop-k : goal.invariant-loop-k
invariant-loop-k l = l.rest ≡ record l.fn.self { slots = present (take l.k l.fn.self.slots) }
