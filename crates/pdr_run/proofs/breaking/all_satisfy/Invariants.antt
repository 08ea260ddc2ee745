use Rattle.std.proofs.Common.{◌<◌, ℕ}
use Rattle.cnf_form.specs.Cnf.{Satisfies}
use Rattle.pdr_run.specs.Deciding.{cycle_at}
use Rattle.pdr_run.proofs.breaking.all_satisfy.Given as goal

abbrev pub invariant-loop-values : goal.invariant-loop-values
invariant-loop-values l = (i : ℕ) → i < l.values-index → Satisfies (cycle_at l.cycles i) l.pair.formula.clauses
