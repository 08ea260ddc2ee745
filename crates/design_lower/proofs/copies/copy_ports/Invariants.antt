use Rattle.std.proofs.Common.{◌≡◌, take}
use Rattle.design_lower.proofs.copies.copy_ports.Given as goal

abbrev pub invariant-loop-place : goal.invariant-loop-place
invariant-loop-place l = l.copy ≡ record l.fn.copy { ports = take l.place l.ports }
