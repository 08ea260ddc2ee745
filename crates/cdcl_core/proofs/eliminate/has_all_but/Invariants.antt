use Rattle.std.proofs.Common.{ℕ, ◌≢◌, ◌<◌, get_or}
use Rattle.std.specs.Prelude.{Contains}
use Rattle.cnf_form.specs.Cnf.{LitOf}
use Rattle.cdcl_core.proofs.eliminate.has_all_but.Given as goal

abbrev pub invariant-loop-m : goal.invariant-loop-m
invariant-loop-m l = (i : ℕ) (d : LitOf) → i < l.m-index → get_or l.other i d ≢ l.but → Contains l.clause (get_or l.other i d)
