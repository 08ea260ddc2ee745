use Rattle.std.proofs.Common.{◌≡◌, ◌++◌, map, length}
use Rattle.design_meaning.specs.States.{Signal as SignalOf}
use Rattle.design_signals.specs.Chunks.{bits_of}
use Rattle.design_states.specs.Bits.{state_bit}
use Rattle.design_states.proofs.state_bits.push_signal.Given as goal

abbrev pub invariant-bits : goal.invariant-bits
invariant-bits l = map state_bit l.bits.items ++ map (λ b. SignalOf b) l.left ≡ map state_bit l.fn.bits.items ++ map (λ b. SignalOf b) (bits_of l.signal)

abbrev pub decreases-bits : goal.decreases-bits
decreases-bits l = length l.left
