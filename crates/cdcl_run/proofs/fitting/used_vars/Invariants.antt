use Rattle.std.proofs.Common.{ℕ, ◌≤◌, take}
use Rattle.cnf_form.specs.Cnf.{Within}
use Rattle.cdcl_run.proofs.fitting.used_vars.Given as goal

abbrev pub invariant-loop-place : goal.invariant-loop-place
invariant-loop-place l = record { within : Within l.used (take l.place l.clauses); fewest : (vars : ℕ) → Within vars l.clauses → l.used ≤ vars }
