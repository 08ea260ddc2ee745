use Rattle.race_core.proofs.SharedParts.{reader_with, keeper_with, place_with}
use Rattle.race_core.proofs.laws.sharing.Goals as goal

pub returns : goal.returns
returns g c = record { reader = reader_with; keeper = keeper_with; place = place_with }
