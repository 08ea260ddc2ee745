use Rattle.std.proofs.Common.{arith}
use Rattle.design_signals.proofs.Cutting.{no_chunk}
use Rattle.design_signals.proofs.RowLemmas.{row_step}
use Rattle.design_signals.proofs.segments.row_width.Goals as goal

pub loop-chunk-preserved : goal.loop-chunk-preserved
loop-chunk-preserved c = omega (arith, c.in-Some.ensures, row_step c.args.chunks.now c.loop-chunk.chunk-index no_chunk c.loop-chunk-test.true, c.loop-chunk.invariant)
