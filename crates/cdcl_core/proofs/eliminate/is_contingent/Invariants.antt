use Rattle.std.proofs.Common.{ℕ, ◌<◌, get_or}
use Rattle.std.specs.Prelude.{Contains}
use Rattle.cnf_form.specs.Cnf.{LitOf, negate}
use Rattle.cdcl_core.proofs.eliminate.is_contingent.Given as goal

abbrev pub invariant-loop-m : goal.invariant-loop-m
invariant-loop-m l = (i : ℕ) (d : LitOf) → i < l.m-index → Contains l.clause (negate (get_or l.clause i d)) → ⊥
