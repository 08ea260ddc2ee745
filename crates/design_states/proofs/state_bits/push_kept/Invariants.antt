use Rattle.std.proofs.Common.{◌≡◌, ◌++◌, map}
use Rattle.std.specs.List.{range_with_len}
use Rattle.design_meaning.specs.States.{Kept as KeptOf}
use Rattle.design_states.specs.Bits.{state_bit}
use Rattle.design_states.proofs.state_bits.push_kept.Given as goal

abbrev pub invariant-loop-bit : goal.invariant-loop-bit
invariant-loop-bit l = map state_bit l.bits.items ≡ map state_bit l.fn.bits.items ++ map (λ k. KeptOf l.place k) (range_with_len 0 l.bit)
