use Rattle.std.proofs.Common.{◌≡◌, ℕ, ◌<◌, Some}
use Rattle.std.specs.Prelude.{slice_get}
use Rattle.design_meaning.specs.Runs.{CycleOf, IsCycleOf}
use Rattle.design_check.proofs.flat.Flat.fits.Given as goal

abbrev pub invariant-loop-cycle : goal.invariant-loop-cycle
invariant-loop-cycle l = (k : ℕ) (x : CycleOf) → k < l.cycle-index → slice_get l.cycles k ≡ Some x → IsCycleOf l.self x
