use Rattle.btor_core.proofs.Fitting.{node_grown, sort_stays, state_stays, width_stays}
use Rattle.btor_core.proofs.laws.widths_stay.Goals as goal

pub returns : goal.returns
returns c = record { values = width_stays; sorts = sort_stays; states = state_stays; nodes = node_grown }
