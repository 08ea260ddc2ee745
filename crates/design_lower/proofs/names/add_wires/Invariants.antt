use Rattle.std.proofs.Common.{take, map}
use Rattle.design_lower.specs.Progress.{Adds}
use Rattle.design_lower.proofs.names.add_wires.Given as goal

abbrev pub invariant-loop-wire : goal.invariant-loop-wire
invariant-loop-wire l = Adds l.fn.names l.names (map (λ x. x.name) (take l.wire-index l.wires))
