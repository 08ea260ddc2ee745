use Rattle.std.proofs.Common.{ℕ, ◌≢◌, ◌<◌, get_or}
use Rattle.cnf_form.specs.Cnf.{LitOf}
use Rattle.cdcl_core.proofs.eliminate.has.Given as goal

abbrev pub invariant-loop-m : goal.invariant-loop-m
invariant-loop-m l = (i : ℕ) (d : LitOf) → i < l.m-index → get_or l.clause i d ≢ l.lit
