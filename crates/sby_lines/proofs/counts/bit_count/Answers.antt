use Rattle.std.proofs.Common.{arith}
use Rattle.design_signals.proofs.Cutting.{long_step, no_chunk}
use Rattle.sby_lines.proofs.counts.bit_count.Goals as goal

pub loop-chunk-preserved : goal.loop-chunk-preserved
loop-chunk-preserved c = record {
  counted = omega (arith, long_step c.args.chunks.now c.loop-chunk.chunk-index no_chunk c.loop-chunk-test.true, c.loop-chunk.invariant.counted, c.chunk_width-count.ensures.width);
  most = omega (arith, c.loop-chunk.invariant.most, c.chunk_width-count.ensures.few);
}
