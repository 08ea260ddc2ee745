use Rattle.design_trace.proofs.Readings.{handed_on, line_stops, lines_more}
use Rattle.design_trace.proofs.reading.wire_lines.Goals as goal

pub returns-in_err-place : goal.returns-in_err-place
returns-in_err-place c =
    let read = c.loop-wire.invariant.1 in
    handed_on c.from_residual.result c.in_err-place.field-0.0 _ _ _ c.from_residual.ensures.1
    (λ byte. line_stops c.args.bytes.now c.args.at c.loop-wire.place byte c.args.wires.now c.loop-wire.wire-index c.wire-item.result c.loop-wire-test.true c.wire-item.is
    read.0 read.2 read.3) c.in_err-place.ensures

pub loop-wire-preserved : goal.loop-wire-preserved
loop-wire-preserved c =
    let read = c.loop-wire.invariant.1 in
    let line = c.in_ok-place.ensures in
    lines_more c.args.bytes.now c.args.at c.loop-wire.place c.in_ok-place.place c.args.wires.now c.loop-wire.wire-index c.wire-item.result c.loop-wire-test.true c.wire-item.is
    c.args.row.now.items c.loop-wire.row.items c.wire_line.new.row.items read.0 line.0 read.1 read.2 read.3 line.1 line.2 line.3
