use Rattle.design_signals.specs.declared.sig_bit.SigBit.TheVariants.{Free}
use Rattle.design_states.proofs.Listing.{plain-next}
use Rattle.design_states.proofs.input_bits.push_free.Goals as goal

pub loop-number-preserved : goal.loop-number-preserved
loop-number-preserved c =
    rw c.in_ok-push.ensures.items (plain-next (λ n. Free n) c.args.bits.now.items c.loop-number.bits.items c.loop-number.number c.loop-number.invariant)
