use Rattle.std.proofs.Common.{◌≡◌, take}
use Rattle.design_lower.proofs.lowering.copy_wires.Given as goal

abbrev pub invariant-loop-place : goal.invariant-loop-place
invariant-loop-place l = l.low ≡ record l.fn.low { wires = take l.place l.wires }
