use Rattle.std.proofs.Common.{take}
use Rattle.model_cone.specs.declared.givers.Giver.TheVariants.{Bit}
use Rattle.model_cone.specs.Marking.{IsGiven}
use Rattle.model_cone.proofs.givers.give_bits.Given as goal

abbrev pub invariant-loop-bit : goal.invariant-loop-bit
invariant-loop-bit l = IsGiven (take l.bit l.places) (λ k. Bit l.register k) l.fn.givers.items l.givers.items
