use Rattle.std.proofs.Common.{◌∙◌, sym, ap, List, get_or, ◌-◌, length}
use Rattle.design_signals.proofs.RowLemmas.{start_room, sliced_rows, on_ok}
use Rattle.design_signals.proofs.segments.Segments.slice.Goals as goal

pub keep_slice-requires-clause-within : goal.keep_slice-requires-clause-within
keep_slice-requires-clause-within c =
    (start_room c.self.inside.chunks.items c.self.inside.starts.items 0 _ c.args.high (ap (λ (x : List _). get_or x (length x - 1) 0) c.as_slice-starts.ensures.value) (rw c.self.view_is c.requires.some) c.self.invariant.starts
    (λ row rows e. c.requires.within row rows (sym c.self.view_is ∙ e))).1

pub returns : goal.returns
returns c =
    on_ok c.keep_slice.result _ _
    (λ e row rows f. sliced_rows c.self.inside.chunks.items _ c.self.inside.starts.items 0 _ c.args.high c.args.low (ap (λ (x : List _). get_or x (length x - 1) 0) c.as_slice-starts.ensures.value) e row rows (c.self.view_is ∙ f))
    c.keep_slice.ensures.row
