use Rattle.std.proofs.Common.{Bool, List, ◌∙◌, subst}
use Rattle.std.specs.Prelude.{IfNone}
use Rattle.cnf_form.specs.Cnf.{Satisfies}
use Rattle.cert_judge.specs.Values.{values_of}
use Rattle.cert_judge.proofs.values.Values.first_unsatisfied.Goals as goal

pub returns-clause-none : goal.returns-clause-none
returns-clause-none g c =
    subst (λ (b : List Bool). IfNone c.first_unsatisfied.result (Satisfies (values_of b) (g.S.ClauseSource.formula c.args.source.now).clauses)) (c.as_slice.ensures.value ∙ c.self.view_is) c.first_unsatisfied.ensures.none
