use Rattle.std.proofs.Common.{List, ℕ, subst, refl, ap, ◌∙◌}
use Rattle.cert_judge.specs.Outcomes.{fate_of}
use Rattle.cert_judge.specs.OutputFate.{own_fate}
use Rattle.cert_judge.specs.OutputJudging.{Ends, OutputOf, HasTaken}
use Rattle.cert_judge.proofs.OutputAnswering.{ends_output}
use Rattle.cert_judge.proofs.OutputFeeding.{output}
use Rattle.cert_judge.proofs.output.OutputJudge.end.Goals as goal

pub returns-clause-ends : goal.returns-clause-ends
returns-clause-ends g c =
    subst (λ (x : OutputOf _). (bytes : List ℕ) → HasTaken x bytes → Ends x (output c.end.new.self c.self.inside.spot c.self.inside.values) bytes c.own_outcome.result) c.self.view_is
    (ends_output c.self.inside.judge c.self.inside.spot c.self.inside.values c.give_end.new.judge c.end.new.self (output c.end.new.self c.self.inside.spot c.self.inside.values) c.in_ok-outcome.outcome
    c.own_outcome.result c.in_ok-give_end.ensures.gave c.in_ok-outcome.ensures.same c.in_ok-outcome.ensures.ends refl
    (c.own_outcome.ensures.fate ∙ ap (λ v. own_fate v (fate_of c.in_ok-outcome.outcome)) c.values_at_end.ensures) c.own_outcome.ensures.same)
