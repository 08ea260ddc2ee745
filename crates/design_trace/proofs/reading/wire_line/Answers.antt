use Rattle.design_trace.proofs.Readings.{handed_on, head_stops, line_goes_on}
use Rattle.design_trace.proofs.reading.wire_line.Goals as goal

pub returns-in_err-at : goal.returns-in_err-at
returns-in_err-at c = handed_on c.from_residual.result c.in_err-at.field-0.0 _ _ _ c.from_residual.ensures.1
    (λ byte. head_stops c.args.bytes.now c.args.at byte c.args.wire.now c.name.result.now c.name.ensures) c.in_err-at.ensures

pub returns : goal.returns
returns c = line_goes_on c.args.bytes.now c.args.at c.in_ok-at.at c.args.row.now.items c.value.new.row.items c.args.wire.now c.name.result.now c.width.result c.value.result
    c.name.ensures c.width.ensures c.in_ok-at.ensures c.value.ensures
