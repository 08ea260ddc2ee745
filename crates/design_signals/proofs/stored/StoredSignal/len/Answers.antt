use Rattle.std.proofs.Common.{arith}
use Rattle.design_signals.proofs.Cutting.{long_step, no_chunk}
use Rattle.design_signals.proofs.stored.StoredSignal.len.Goals as goal

pub overflow_add-len : goal.overflow_add-len
overflow_add-len c =
    omega (arith, long_step c.chunks-chunk-items.result.now c.loop-chunk.chunk-index no_chunk c.loop-chunk-test.true, c.loop-chunk.invariant, c.chunks-chunk-items.ensures.few)

pub loop-chunk-preserved : goal.loop-chunk-preserved
loop-chunk-preserved c = omega (arith, long_step c.chunks-chunk-items.result.now c.loop-chunk.chunk-index no_chunk c.loop-chunk-test.true, c.loop-chunk.invariant)
