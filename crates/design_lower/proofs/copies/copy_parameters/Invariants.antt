use Rattle.std.proofs.Common.{◌≡◌, take}
use Rattle.design_lower.proofs.copies.copy_parameters.Given as goal

abbrev pub invariant-loop-place : goal.invariant-loop-place
invariant-loop-place l = l.copy ≡ record l.fn.copy { parameters = take l.place l.parameters }
