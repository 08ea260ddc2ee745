use Rattle.std.proofs.Common.{◌≡◌, ◌<◌, ℕ, false, get_or}
use Rattle.cnf_form.specs.Cnf.{LitOf, lit_in}
use Rattle.cert_judge.specs.Values.{values_of}
use Rattle.cert_judge.proofs.values.satisfies_clause.Given as goal

abbrev pub invariant-loop-l : goal.invariant-loop-l
invariant-loop-l l = (j : ℕ) (m : LitOf) → j < l.l-index → get_or l.clause j m ≡ m → lit_in (values_of l.values) m ≡ false
