use Rattle.design_meaning.proofs.Inputs.{given_or_input, not_both}
use Rattle.design_meaning.proofs.laws.bits_are_given_or_inputs.Goals as goal

pub returns : goal.returns
returns c = record { some = given_or_input; one = not_both }
