use Rattle.std.proofs.Common.{inl, inr}
use Rattle.std.proofs.lemmas.Bool.{cases_lt}
use Rattle.design_meaning.proofs.laws.neighbouring_spans_join.Goals as goal

pub returns : goal.returns
returns c = λ d k m n first second j vs a lt le shows.
    elim (cases_lt m j) as (λ _. ⊥) [
      | inl above ↦ second j vs a above le shows
      | inr below ↦ first j vs a lt below shows
    ]
