use Rattle.std.proofs.Common.{◌≡◌, ◌≤◌, ◌++◌, Bool, List, take, length}
use Rattle.std.specs.List.{sum_by}
use Rattle.design_trace.specs.Trace.{wire_lines}
use Rattle.design_trace.specs.Reading.{Reads}
use Rattle.design_trace.proofs.reading.wire_lines.Given as goal

abbrev pub invariant-loop-wire : goal.invariant-loop-wire
invariant-loop-wire l = (l.place ≤ length l.bytes) × ((r : List Bool) × (l.row.items ≡ l.fn.row.items ++ r) × (length r ≡ sum_by (λ w. w.width) (take l.wire-index l.wires))
    × Reads l.bytes l.at (wire_lines (take l.wire-index l.wires) r) l.place)
