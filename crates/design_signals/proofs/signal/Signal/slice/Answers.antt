use Rattle.std.proofs.Common.{◌≡◌, ◌++◌, ◌∙◌, ap, arith, List, get_or}
use Rattle.design_signals.specs.declared.sig_bit.SigBit.{SigBit}
use Rattle.design_signals.specs.Chunks.{bits_from}
use Rattle.design_signals.proofs.Cutting.{cut_next, long_step, no_chunk, kept_none}
use Rattle.design_signals.proofs.signal.Signal.slice.Goals as goal
use Rattle.design_signals.proofs.signal.Signal.slice.Goals.{then-count-gt0+in_ok-push, else-count-gt0}

pub loop-chunk-preserved : goal.loop-chunk-preserved
loop-chunk-preserved c =
    let cs = c.as_slice-chunk-items.result.now in
    let k = c.loop-chunk.chunk-index in
    let kept : c.if-count-gt0.kept ≡ c.loop-chunk.kept ++ bits_from (get_or cs k no_chunk).first c.loop-chunk.skip c.min-count.result =
    elim c.if-count-gt0.branch [
      | then-count-gt0+in_ok-push w ↦ w.kept-is ∙ w.in_ok-push.ensures.ok ∙ ap (λ (x : List SigBit). c.loop-chunk.kept ++ x) w.part.ensures.bits
      | else-count-gt0 w ↦ w.kept-is ∙ kept_none c.loop-chunk.kept (get_or cs k no_chunk).first c.loop-chunk.skip c.min-count.result w.if-count-gt0.false
    ] in
    record {
      same = cut_next c.loop-chunk.kept c.if-count-gt0.kept _ cs k c.loop-chunk.skip c.loop-chunk.left c.min-count.result c.saturating_sub-skip.result no_chunk c.loop-chunk-test.true
          (omega (arith, c.min-count.ensures, c.saturating_sub-room.ensures)) c.saturating_sub-skip.ensures kept c.loop-chunk.invariant.same;
      within = omega (arith, long_step cs k no_chunk c.loop-chunk-test.true, c.loop-chunk.invariant.within, c.min-count.ensures, c.saturating_sub-room.ensures, c.saturating_sub-skip.ensures);
    }
