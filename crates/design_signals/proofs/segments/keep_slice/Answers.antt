use Rattle.std.proofs.Common.{◌∙◌, ap, List, take, drop, ◌++◌, ◌-◌, ◌+◌}
use Rattle.std.specs.Prelude.{reverse}
use Rattle.std.proofs.lemmas.List.{take_rest}
use Rattle.design_signals.specs.declared.chunk.Chunk.{Chunk}
use Rattle.design_signals.specs.declared.sig_bit.SigBit.{SigBit}
use Rattle.design_signals.specs.Parts.{row_of}
use Rattle.design_signals.proofs.RowLemmas.{is_sliced, on_ok}
use Rattle.design_signals.proofs.segments.keep_slice.Goals as goal

pub returns-clause-row : goal.returns-clause-row
returns-clause-row c =
    on_ok c.push_turned.result _ _
    (λ e. is_sliced c.args.chunks.now.items c.push_turned.new.chunks.items c.chunks.result.now c.args.start c.args.high c.args.low c.requires.start c.requires.order c.requires.within
    (e ∙ ap (λ (x : List Chunk). x ++ reverse c.chunks.result.now) c.truncate.ensures.items)
    (c.chunks.ensures.bits ∙ c.in_ok-kept.ensures
    ∙ ap (λ (x : List SigBit). take (c.args.high - c.args.low + 1) (drop c.args.low x)) (rw c.as_slice.ensures.value at c.in_ok-whole.ensures ∙ ap (λ (x : List Chunk). reverse (row_of x)) (take_rest c.args.chunks.now.items c.args.start))))
    c.push_turned.ensures.row
