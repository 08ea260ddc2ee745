use Rattle.std.proofs.Common.{◌≡◌, ℕ, ◌<◌, Some}
use Rattle.std.specs.Prelude.{slice_get}
use Rattle.design_core.specs.Shape.{IsNumbered}
use Rattle.design_core.specs.declared.digit.Digit.{Digit}
use Rattle.design_core.proofs.design.Design.numbers_all.Given as goal

abbrev pub invariant-loop-place : goal.invariant-loop-place
invariant-loop-place l = (k : ℕ) (x : Digit) → k < l.place → slice_get l.constant k ≡ Some x → IsNumbered l.self.free x
