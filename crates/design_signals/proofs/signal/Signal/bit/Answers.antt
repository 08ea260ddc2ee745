use Rattle.std.proofs.Common.{◌∙◌, sym, ap, arith, Some}
use Rattle.design_signals.specs.declared.sig_bit.SigBit.{SigBit}
use Rattle.design_signals.proofs.Cutting.{bit_step, bit_next, long_step, no_chunk}
use Rattle.design_signals.proofs.signal.Signal.bit.Goals as goal

pub returns-then-left-width : goal.returns-then-left-width
returns-then-left-width c =
    sym c.loop-chunk.invariant.same
    ∙ bit_step c.as_slice-chunk-items.result.now c.loop-chunk.chunk-index c.loop-chunk.left no_chunk c.loop-chunk-test.true c.if-left-width.true
    ∙ ap (λ (x : SigBit). Some x) (sym c.above.ensures)

pub loop-chunk-preserved : goal.loop-chunk-preserved
loop-chunk-preserved c = record {
  same =
      sym (bit_next c.as_slice-chunk-items.result.now c.loop-chunk.chunk-index c.loop-chunk.left no_chunk c.loop-chunk-test.true c.if-left-width.false)
      ∙ c.loop-chunk.invariant.same;
  within = omega (arith, long_step c.as_slice-chunk-items.result.now c.loop-chunk.chunk-index no_chunk c.loop-chunk-test.true, c.loop-chunk.invariant.within, c.if-left-width.false);
}
