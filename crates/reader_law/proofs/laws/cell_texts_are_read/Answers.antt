use Rattle.std.proofs.Common.{◌+◌, refl, arith}
use Rattle.std.specs.List.{range_with_len}
use Rattle.reader_law.proofs.Steps.{are_named, next_range}
use Rattle.reader_law.proofs.CellSteps.{cell_text_steps, ignored_text_steps}
use Rattle.reader_law.proofs.laws.cell_texts_are_read.Goals as goal

pub returns-clause-kept : goal.returns-clause-kept
returns-clause-kept c d a ws x count rest names distinct none text room =
    let free = d.design.free in
    cell_text_steps d a ws x (range_with_len free count) (free + count) rest (are_named d.design.wires names distinct (omega (arith, room))) none text (next_range free count (free + count) refl) room

pub returns-clause-ignored : goal.returns-clause-ignored
returns-clause-ignored c d a ws name rest names distinct none text room = ignored_text_steps d a ws name rest (are_named d.design.wires names distinct (omega (arith, room))) none text room
