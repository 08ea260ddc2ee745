use Rattle.std.proofs.Common.{◌∙◌, ◌++◌, ◌∷◌, [], List, ℕ, ap, subst, sym}
use Rattle.place_rows.specs.Rows.{AreRowsOf}
use Rattle.witness_tests.proofs.FourInputs.{row_of_inputs}
use Rattle.witness_tests.proofs.tests.judging.word_comes.Goals as goal

pub judged-requires : goal.judged-requires
judged-requires c =
    subst (λ (rows : List (List ℕ)). AreRowsOf c.in_ok-model.model.inputs rows) (sym (c.in_ok-push.ensures.ok ∙ ap (λ (rows : List (List ℕ)). rows ++ (5 ∷ 4 ∷ 3 ∷ []) ∷ []) c.new-rows.ensures))
    (subst (λ (ps : List ℕ). AreRowsOf ps ((5 ∷ 4 ∷ 3 ∷ []) ∷ [])) (sym c.in_ok-model.ensures) row_of_inputs)
