use Rattle.std.proofs.Common.{◌≡◌, take, map}
use Rattle.design_lower.specs.Lowering.{digit_bit}
use Rattle.design_lower.proofs.parts.reset_signal.Given as goal

abbrev pub invariant-loop-place : goal.invariant-loop-place
invariant-loop-place l = l.signal ≡ map digit_bit (take l.place l.constant)
