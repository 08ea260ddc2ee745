use Rattle.std.proofs.Common.{◌≡◌, take, map, string_bytes}
use Rattle.design_lower.proofs.copies.copy_foreign.Given as goal

abbrev pub invariant-loop-place : goal.invariant-loop-place
invariant-loop-place l = l.copy ≡ record l.fn.copy { foreign = map string_bytes (take l.place l.foreign) }
