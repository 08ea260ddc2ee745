use Rattle.std.proofs.Common.{◌≡◌, ◌++◌, map, not}
use Rattle.std.specs.List.{filter, list_any, range_with_len}
use Rattle.design_meaning.specs.States.{given, is_wire_bit}
use Rattle.design_signals.specs.declared.sig_bit.SigBit.TheVariants.{Wire}
use Rattle.design_states.proofs.input_bits.push_open.Given as goal

abbrev pub invariant-loop-bit : goal.invariant-loop-bit
invariant-loop-bit l = l.bits.items ≡ l.fn.bits.items ++ map (λ b. Wire l.fn.wire b) (filter (λ b. not (list_any (is_wire_bit l.fn.wire b) (given l.fn.design))) (range_with_len 0 l.bit))
