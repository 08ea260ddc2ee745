use Rattle.std.proofs.Common.{ℕ, List, subst, sym}
use Rattle.place_rows.specs.Rows.{AreRowsOf}
use Rattle.btor_tests.proofs.tests.emission.text_of.Goals as goal

pub emit-requires : goal.emit-requires
emit-requires c = subst (λ (ps : List ℕ). AreRowsOf ps c.in_ok-rows.rows) (sym c.in_ok-model.ensures.model.inputs) c.in_ok-rows.ensures.inputs
