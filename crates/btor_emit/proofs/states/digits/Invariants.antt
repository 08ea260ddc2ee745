use Rattle.std.proofs.Common.{◌≡◌, false, map, take}
use Rattle.std.specs.Option.{unwrap_or}
use Rattle.btor_emit.proofs.states.digits.Given as goal

abbrev pub invariant-loop-start : goal.invariant-loop-start
invariant-loop-start l = l.bits.items ≡ map (λ d. unwrap_or d false) (take l.start-index l.starts)
