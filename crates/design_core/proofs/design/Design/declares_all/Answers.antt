use Rattle.std.proofs.Common.{refl}
use Rattle.std.proofs.lemmas.Bool.{false≢true}
use Rattle.design_signals.proofs.Cutting.{no_chunk}
use Rattle.design_core.specs.Shape.{IsDeclared}
use Rattle.design_core.proofs.Declaring.{chunk_first, chunk_rest, chunk_both, chunks_none}
use Rattle.design_core.proofs.design.Design.declares_all.Goals as goal

pub returns-then-not-declares_chunk : goal.returns-then-not-declares_chunk
returns-then-not-declares_chunk c =
    let d = c.args.self.now in (
      λ h. absurd (false≢true h),
      λ all. c.if-not-declares_chunk.ensures.1
          (chunk_first (IsDeclared d.wires d.free) c.args.chunks.now c.loop-chunk.chunk-index no_chunk c.loop-chunk-test.true (c.loop-chunk.invariant.rest all)),
    )

pub loop-chunk-preserved : goal.loop-chunk-preserved
loop-chunk-preserved c =
    let d = c.args.self.now in
    let k = c.loop-chunk.chunk-index in
    let cs = c.args.chunks.now in
    record {
      whole = λ rest. c.loop-chunk.invariant.whole (chunk_both (IsDeclared d.wires d.free) cs k no_chunk c.loop-chunk-test.true (c.if-not-declares_chunk.ensures.0 refl) rest);
      rest = λ all. chunk_rest (IsDeclared d.wires d.free) cs k no_chunk c.loop-chunk-test.true (c.loop-chunk.invariant.rest all);
    }

pub returns : goal.returns
returns c =
    let d = c.args.self.now in
    (λ t. c.loop-chunk.invariant.whole (chunks_none (IsDeclared d.wires d.free) c.args.chunks.now c.loop-chunk.chunk-index c.loop-chunk-test.false), λ all. refl)
