use Rattle.std.proofs.Common.{◌≡◌, ◌≤◌, ◌++◌, drop, length}
use Rattle.std.specs.List.{sum_by}
use Rattle.design_trace.specs.Trace.{wire_lines}
use Rattle.design_trace.proofs.writing.put_wires.Given as goal

abbrev pub invariant-loop-wire : goal.invariant-loop-wire
invariant-loop-wire l = (sum_by (λ w. w.width) (drop l.wire-index l.wires) ≤ length l.rest)
    × (l.text.items ++ wire_lines (drop l.wire-index l.wires) l.rest ≡ l.fn.text.items ++ wire_lines l.wires l.row)
