use Rattle.std.specs.Prelude.{Contains, IfSome}
use Rattle.unit_propagation.specs.Propagation.{IsUnassigned}
use Rattle.cdcl_core.proofs.thaw.is_settled.Given as goal

abbrev pub invariant-loop-l : goal.invariant-loop-l
invariant-loop-l l = IfSome l.open (λ o. Contains l.clause o × IsUnassigned l.core.trail o)
