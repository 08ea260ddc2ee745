use Rattle.race_core.proofs.Places.{start_held, start_back}
use Rattle.race_core.proofs.laws.starts_have_places.Goals as goal

pub returns : goal.returns
returns g c = record { held = start_held; back = start_back }
