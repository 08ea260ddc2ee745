use Rattle.std.proofs.Common.{ℕ, ◌<◌, get_or}
use Rattle.std.specs.Prelude.{Contains}
use Rattle.cnf_form.specs.Cnf.{LitOf}
use Rattle.decision_order.proofs.unassigned.is_satisfied.Given as goal

abbrev pub invariant-loop-l : goal.invariant-loop-l
invariant-loop-l l = record {
  none : (i : ℕ) (d : LitOf) → i < l.l-index → Contains l.core.trail (get_or l.clause i d) → ⊥;
}
