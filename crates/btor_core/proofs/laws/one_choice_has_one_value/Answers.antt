use Rattle.btor_core.proofs.Rows.{values_are_one}
use Rattle.btor_core.proofs.laws.one_choice_has_one_value.Goals as goal

pub returns : goal.returns
returns c = values_are_one
