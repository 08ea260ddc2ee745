use Rattle.design_lower.proofs.Counting.{flat-room}
use Rattle.design_lower.proofs.laws.flat_designs_have_room.Goals as goal

pub returns : goal.returns
returns c = λ d shape flat half cells. flat-room d shape flat half cells
