use Rattle.std.proofs.Common.{◌≡◌, ℕ, ◌<◌, Some, All}
use Rattle.std.specs.Prelude.{slice_get}
use Rattle.design_core.specs.Shape.{IsNumbered}
use Rattle.design_core.specs.declared.parts.Parameter.{Parameter}
use Rattle.design_core.proofs.design.Design.numbers_parameters.Given as goal

abbrev pub invariant-loop-parameter : goal.invariant-loop-parameter
invariant-loop-parameter l = (k : ℕ) (p : Parameter) → k < l.parameter-index → slice_get l.parameters k ≡ Some p → All (IsNumbered l.self.free) p.digits
