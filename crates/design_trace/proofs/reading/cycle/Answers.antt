use Rattle.std.proofs.Common.{Some, map}
use Rattle.std.specs.List.{flat_map}
use Rattle.design_trace.specs.Trace.{cycle_line}
use Rattle.design_trace.specs.Reading.{wire_pattern}
use Rattle.design_trace.proofs.Readings.{cycle_goes_on, handed_on, stops_first}
use Rattle.design_trace.proofs.reading.cycle.Goals as goal

pub returns-in_err-at : goal.returns-in_err-at
returns-in_err-at c = handed_on c.from_residual.result c.in_err-at.field-0.0 _ _ _ c.from_residual.ensures.1
    (λ byte. stops_first c.args.bytes.now c.args.at byte (map Some (cycle_line c.args.number)) (flat_map wire_pattern c.args.design.now.wires)) c.in_err-at.ensures

pub returns : goal.returns
returns c = cycle_goes_on c.args.bytes.now c.args.at c.in_ok-at.at c.args.design.now c.args.number c.wires.result.now c.args.row.now.items c.wire_lines.new.row.items c.wire_lines.result
    c.wires.ensures.wires c.requires.empty c.in_ok-at.ensures c.wire_lines.ensures
