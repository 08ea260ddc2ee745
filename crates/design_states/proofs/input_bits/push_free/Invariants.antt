use Rattle.std.proofs.Common.{◌≡◌, ◌++◌, map}
use Rattle.std.specs.List.{range_with_len}
use Rattle.design_signals.specs.declared.sig_bit.SigBit.TheVariants.{Free}
use Rattle.design_states.proofs.input_bits.push_free.Given as goal

abbrev pub invariant-loop-number : goal.invariant-loop-number
invariant-loop-number l = l.bits.items ≡ l.fn.bits.items ++ map (λ n. Free n) (range_with_len 0 l.number)
