use Rattle.design_lower.proofs.Rooms.{design-room, room-design}
use Rattle.design_lower.proofs.laws.room_is_for_the_lowered_design.Goals as goal

pub returns : goal.returns
returns c = λ d e shape low. (room-design low.count d e shape low.steps low.low, design-room low.count d e shape low.steps low.low)
