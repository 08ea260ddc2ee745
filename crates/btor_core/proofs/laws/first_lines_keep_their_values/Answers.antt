use Rattle.btor_core.proofs.Choosing.{front_holds, values_go_on}
use Rattle.btor_core.proofs.laws.first_lines_keep_their_values.Goals as goal

pub returns : goal.returns
returns c = record { front = front_holds; on = values_go_on }
