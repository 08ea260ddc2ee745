use Rattle.std.specs.Prelude.{IfSome}
use Rattle.cnf_form.specs.Cnf.{LitWithin}
use Rattle.unit_propagation.specs.Propagation.{IsUnassigned}
use Rattle.decision_order.proofs.unassigned.unassigned_in.Given as goal

abbrev pub invariant-loop-l : goal.invariant-loop-l
invariant-loop-l l = IfSome l.found (λ x. LitWithin l.core.vars x × IsUnassigned l.core.trail x)
