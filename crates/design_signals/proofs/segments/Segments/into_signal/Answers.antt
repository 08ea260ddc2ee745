use Rattle.std.proofs.Common.{◌∙◌}
use Rattle.design_signals.proofs.RowLemmas.{one_row, if_ok}
use Rattle.design_signals.proofs.segments.Segments.into_signal.Goals as goal

pub returns : goal.returns
returns c =
    if_ok c.turned.result _ _
    (λ signal e row f. one_row c.self.inside.chunks.items c.self.inside.starts.items row signal c.self.invariant.starts (c.self.view_is ∙ f)
    (rw c.as_slice.ensures.value at e))
    c.turned.ensures
