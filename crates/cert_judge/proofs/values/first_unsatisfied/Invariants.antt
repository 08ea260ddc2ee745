use Rattle.std.proofs.Common.{◌≡◌, ◌<◌, ℕ, List, Some}
use Rattle.std.specs.Prelude.{slice_get}
use Rattle.cnf_form.specs.Cnf.{LitOf, SatisfiesClause}
use Rattle.cert_judge.specs.Values.{values_of}
use Rattle.cert_judge.proofs.values.first_unsatisfied.Given as goal

abbrev pub invariant-loop-number : goal.invariant-loop-number
invariant-loop-number g l =
    let source = g.S.ClauseSource in
    record {
      satisfied : (j : ℕ) (d : List LitOf) → j < l.number → slice_get (source.formula l.source).clauses j ≡ Some d → SatisfiesClause (values_of l.values) d;
      place : source.at l.source l.place l.number;
    }
