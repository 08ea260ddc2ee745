use Rattle.std.proofs.Common.{ℕ, ◌≤◌, take}
use Rattle.std.specs.Prelude.{All}
use Rattle.cnf_form.specs.Cnf.{LitOf}
use Rattle.cdcl_run.proofs.fitting.greatest_var.Given as goal

abbrev pub invariant-loop-l : goal.invariant-loop-l
invariant-loop-l l = record { above : All (λ (m : LitOf). m.var ≤ l.greatest) (take l.l-index l.clause); least : (vars : ℕ) → All (λ (m : LitOf). m.var ≤ vars) l.clause → l.greatest ≤ vars }
