use Rattle.std.proofs.Common.{refl}
use Rattle.design_meaning.specs.States.{Kept as KeptOf}
use Rattle.design_states.specs.Bits.{state_bit}
use Rattle.design_states.specs.declared.state_bits.StateBit.TheVariants.{Kept}
use Rattle.design_states.proofs.Listing.{number-next}
use Rattle.design_states.proofs.state_bits.push_kept.Goals as goal

pub loop-bit-preserved : goal.loop-bit-preserved
loop-bit-preserved c =
    rw c.in_ok-push.ensures.items
    (number-next state_bit (λ k. KeptOf c.args.place k) c.args.bits.now.items c.loop-bit.bits.items (Kept c.args.place c.loop-bit.bit) c.loop-bit.bit refl c.loop-bit.invariant)
