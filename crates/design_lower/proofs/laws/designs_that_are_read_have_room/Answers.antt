use Rattle.std.proofs.Common.{◌+◌, ◌≤◌, ◌^◌, length, arith}
use Rattle.design_core.specs.Shape.{wire_bits}
use Rattle.design_reader.proofs.Room.{reading_kept}
use Rattle.design_lower.proofs.CellCount.{few_cells}
use Rattle.design_lower.proofs.Counting.{flat-room}
use Rattle.design_lower.proofs.laws.designs_that_are_read_have_room.Goals as goal

pub returns : goal.returns
returns c = λ text d shape reads flat.
    let bits : wire_bits d + d.free ≤ 2 ^ 20 = (reading_kept reads.tokens _ _ reads.whole).bits in
    let cells : length d.cells ≤ 2 ^ 26 = omega (arith, few_cells text d reads, reads.limit) in
    flat-room d shape flat (omega (arith, bits)) (omega (arith, bits, cells))
