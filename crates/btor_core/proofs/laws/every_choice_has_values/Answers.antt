use Rattle.btor_core.proofs.Choosing.{choices_have_values}
use Rattle.btor_core.proofs.laws.every_choice_has_values.Goals as goal

pub returns : goal.returns
returns c = choices_have_values
