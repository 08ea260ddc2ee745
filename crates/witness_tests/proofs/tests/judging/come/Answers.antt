use Rattle.std.proofs.Common.{List, ℕ, subst, sym}
use Rattle.place_rows.specs.Rows.{AreRowsOf}
use Rattle.witness_tests.proofs.FourInputs.{no_rows}
use Rattle.witness_tests.proofs.tests.judging.come.Goals as goal

pub judged-requires : goal.judged-requires
judged-requires c = subst (λ (rows : List (List ℕ)). AreRowsOf c.in_ok-model.model.inputs rows) (sym c.new-rows.ensures) (no_rows c.in_ok-model.model.inputs)
