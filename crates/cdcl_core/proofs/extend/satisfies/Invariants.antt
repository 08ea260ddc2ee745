use Rattle.std.proofs.Common.{◌≡◌, ◌<◌, ℕ}
use Rattle.std.specs.Prelude.{Some, slice_get}
use Rattle.cnf_form.specs.Cnf.{SatisfiesClause}
use Rattle.cdcl_core.specs.Solving.{valued}
use Rattle.cdcl_core.proofs.extend.satisfies.Given as goal

abbrev pub invariant-loop-place : goal.invariant-loop-place
invariant-loop-place l = (i : ℕ) (c : _) → i < l.place → slice_get l.clauses i ≡ Some c → SatisfiesClause (valued l.values) c
