use Rattle.std.proofs.Common.{◌∙◌}
use Rattle.design_signals.proofs.RowLemmas.{join_starts, join_rows}
use Rattle.design_signals.proofs.segments.Segments.join.Goals as goal

pub invariant_of-self : goal.invariant_of-self
invariant_of-self c = record {
  chunks = c.self.invariant.chunks;
  starts = join_starts c.self.inside.chunks.items c.self.inside.starts.items _ c.pop.result _ (c.pop.ensures.items, c.self.inside.starts.ok.0, c.pop.ensures.variant)
      (rw c.self.view_is c.requires) c.self.invariant.starts;
}

pub returns : goal.returns
returns c = λ row above rows e.
    join_rows c.self.inside.chunks.items c.self.inside.starts.items _ c.pop.result _ (c.pop.ensures.items, c.self.inside.starts.ok.0, c.pop.ensures.variant)
    (rw c.self.view_is c.requires) c.self.invariant.starts row above rows (c.self.view_is ∙ e)
