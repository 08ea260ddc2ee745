use Rattle.std.proofs.Common.{◌∙◌, ap, List, get_or, ◌-◌, length}
use Rattle.design_signals.proofs.RowLemmas.{below_rows, on_ok}
use Rattle.design_signals.proofs.segments.Segments.push_bit.Goals as goal

pub returns : goal.returns
returns c =
    on_ok c.push_below.result _ _
    (λ e row rows f. below_rows c.self.inside.chunks.items _ c.self.inside.starts.items 0 _ c.args.bit (ap (λ (x : List _). get_or x (length x - 1) 0) c.as_slice-starts.ensures.value)
    c.push_below.ensures.before e row rows (c.self.view_is ∙ f))
    c.push_below.ensures.row
