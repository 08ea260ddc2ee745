use Rattle.design_lower.proofs.Alike.{IsWired-design}
use Rattle.design_lower.proofs.Flatness.{flat-some}
use Rattle.design_lower.proofs.laws.lowering_keeps_flatness.Goals as goal

pub returns : goal.returns
returns c = λ d e shape low. flat-some low.count d e (IsWired-design d shape) low.steps
