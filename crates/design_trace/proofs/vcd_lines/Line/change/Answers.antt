use Rattle.std.proofs.Common.{◌∙◌, ap, get_or}
use Rattle.design_trace.proofs.Coming.{bit_line, bits_line, bits_there}
use Rattle.design_trace.proofs.vcd_lines.Line.change.Goals as goal

pub returns-then-width-eq1-clause-line : goal.returns-then-width-eq1-clause-line
returns-then-width-eq1-clause-line g c = c.plain.ensures.line (g.V.Waveform.rows c.args.waveform.now)

pub returns-then-width-eq1-clause-text : goal.returns-then-width-eq1-clause-text
returns-then-width-eq1-clause-text g c =
    let d = c.args.design.now in
    let rows = g.V.Waveform.rows c.args.waveform.now in
    let wire = c.index-wires-wire.result in
    let is = c.index-wires-wire.is ∙ ap (λ ws. get_or ws c.args.wire wire) c.wires.ensures.wires in
    let place = c.requires.place in
    let there = bits_there d rows c.args.cycle c.args.wire c.args.low wire c.requires.shown place.0 place.1 is place.2 in
    bit_line d rows c.args.cycle c.args.wire c.args.low wire _ c.bit.result _ _ _ place.1 is c.width-width.ensures c.if-width-eq1.true there c.bit.ensures
    (c.plain.ensures.text rows ∙ c.bit_line.ensures.text) c.plain.ensures.next (c.change_place-next.ensures.text rows)

pub returns-clause-text : goal.returns-clause-text
returns-clause-text g c =
    let d = c.args.design.now in
    let rows = g.V.Waveform.rows c.args.waveform.now in
    let wire = c.index-wires-wire.result in
    let is = c.index-wires-wire.is ∙ ap (λ ws. get_or ws c.args.wire wire) c.wires.ensures.wires in
    bits_line d rows c.args.cycle c.args.wire c.args.low wire _ _ _ _ c.requires.place.1 is c.width-width.ensures c.if-width-eq1.false c.of.ensures.text c.bits_end.ensures.text
    (c.change_place-next.ensures.text rows)
