use Rattle.std.proofs.Common.{sym, ◌∙◌, ap, length}
use Rattle.model_core.specs.Choices.{ChoicesOf}
use Rattle.model_play.proofs.Packing.{length-rows_of}
use Rattle.model_play.proofs.choices.Choices.cycles.Goals as goal

pub returns : goal.returns
returns c = sym (length-rows_of c.self.inside.width c.self.inside.cycles c.self.inside.inputs.items) ∙ ap (λ (a : ChoicesOf). length a.inputs) c.self.view_is
