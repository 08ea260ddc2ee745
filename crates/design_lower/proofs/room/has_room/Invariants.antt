use Rattle.std.proofs.Common.{◌↔◌, drop}
use Rattle.design_lower.specs.Room.{HasRoom}
use Rattle.design_lower.proofs.Leaving.{IsRoomFor}
use Rattle.design_lower.proofs.room.has_room.Given as goal

abbrev pub invariant-loop-cell : goal.invariant-loop-cell
invariant-loop-cell l = IsRoomFor (drop l.cell-index l.design.cells) l.room.bits l.room.cells ↔ HasRoom l.design
