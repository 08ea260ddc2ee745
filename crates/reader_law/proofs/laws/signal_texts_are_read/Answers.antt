use Rattle.std.proofs.Common.{◌+◌, refl, arith}
use Rattle.std.specs.List.{range_with_len}
use Rattle.reader_law.proofs.Steps.{next_range}
use Rattle.reader_law.proofs.Steps.{are_named}
use Rattle.reader_law.proofs.SignalSteps.{right_steps, text_steps}
use Rattle.reader_law.proofs.laws.signal_texts_are_read.Goals as goal

pub returns-clause-at_port_or_left : goal.returns-clause-at_port_or_left
returns-clause-at_port_or_left c d t ws signal count rest names distinct kept text room =
    let free = d.design.free in
    text_steps d t ws signal (range_with_len free count) (free + count) rest (record { named = are_named d.design.wires names distinct (omega (arith, room)); kept = λ i. omega (arith, kept i); room = room }) text
    (next_range free count (free + count) refl)

pub returns-clause-on_the_right : goal.returns-clause-on_the_right
returns-clause-on_the_right c d row ws signal count rest names distinct text room =
    let free = d.design.free in
    right_steps d row ws signal (range_with_len free count) (free + count) rest (record { named = are_named d.design.wires names distinct (omega (arith, room)); kept = λ i. absurd cc; room = room }) text
    (next_range free count (free + count) refl)
