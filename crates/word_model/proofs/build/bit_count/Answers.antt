use Rattle.std.proofs.Common.{arith}
use Rattle.design_signals.proofs.Cutting.{long_step, no_chunk}
use Rattle.word_model.proofs.build.bit_count.Goals as goal

pub loop-chunk-preserved : goal.loop-chunk-preserved
loop-chunk-preserved c = omega (arith, long_step c.args.chunks.now c.loop-chunk.chunk-index no_chunk c.loop-chunk-test.true, c.loop-chunk.invariant, c.in-Some.ensures)
