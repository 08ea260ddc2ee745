use Rattle.std.proofs.Common.{◌∙◌, sym, ap, List, length}
use Rattle.design_signals.specs.declared.sig_bit.SigBit.{SigBit}
use Rattle.design_signals.proofs.RowLemmas.{shown_long}
use Rattle.design_signals.proofs.segments.Segments.len.Goals as goal

pub returns : goal.returns
returns c =
    c.len.ensures ∙ c.self.inside.starts.ok.0 ∙ sym (shown_long c.self.inside.chunks.items c.self.inside.starts.items)
    ∙ ap (λ (x : List (List SigBit)). length x) c.self.view_is
