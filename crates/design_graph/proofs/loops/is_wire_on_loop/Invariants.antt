use Rattle.std.proofs.Common.{ℕ, ◌<◌}
use Rattle.design_meaning.specs.Rests.{IsOnLoop}
use Rattle.design_signals.specs.declared.sig_bit.SigBit.TheVariants.{Wire}
use Rattle.design_graph.proofs.loops.is_wire_on_loop.Given as goal

abbrev pub invariant-loop-bit : goal.invariant-loop-bit
invariant-loop-bit l = (k : ℕ) → k < l.bit → IsOnLoop l.design (Wire l.wire k) → ⊥
