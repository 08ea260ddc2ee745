use Rattle.std.proofs.Common.{sym, ◌∙◌, ap, length, List}
use Rattle.sby_bits.specs.Rows.{Row}
use Rattle.model_play.proofs.Packing.{length-packed_rows}
use Rattle.model_play.proofs.kept.Kept.cycles.Goals as goal

pub returns : goal.returns
returns c = sym (length-packed_rows c.self.inside.words.items c.self.inside.width c.self.inside.cycles) ∙ ap (λ (a : List Row). length a) c.self.view_is
