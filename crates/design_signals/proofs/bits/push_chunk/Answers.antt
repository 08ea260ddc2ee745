use Rattle.design_signals.proofs.RowLemmas.{bit_pushed}
use Rattle.design_signals.proofs.bits.push_chunk.Goals as goal

pub loop-place-preserved : goal.loop-place-preserved
loop-place-preserved c = bit_pushed _ _ _ c.args.chunk.first c.loop-place.place _ c.loop-place.invariant c.in_ok-push.ensures.items c.above.ensures
