use Rattle.std.proofs.Common.{◌∙◌, ◌++◌, ◌∷◌, [], ap, arith}
use Rattle.design_signals.specs.declared.chunk.Chunk.{Chunk}
use Rattle.design_signals.specs.Parts.{falling}
use Rattle.design_signals.proofs.Widening.{last_widened}
use Rattle.design_signals.proofs.digits.push_below.Goals as goal

pub returns-in-Some-clause-row : goal.returns-in-Some-clause-row
returns-in-Some-clause-row c =
    last_widened c.args.chunks.now.items c.args.start _ c.in-Some.chunk c.index.result.now c.args.bit (omega (arith, c.if-start-len.true))
    (omega (arith, c.if-start-len.true, c.len-len.ensures, c.args.chunks.now.ok.0))
    (c.in-Some.ensures.bits ∙ ap (λ (x : Chunk). falling x ++ c.args.bit ∷ []) c.index.ensures)
