use Rattle.std.proofs.Common.{◌≡◌, ◌<◌, ℕ, Some}
use Rattle.std.specs.Prelude.{slice_get}
use Rattle.judge.specs.Finding.{FindingOf, IsTrueFinding}
use Rattle.race_core.specs.Carrying.{Carries}
use Rattle.race_core.specs.declared.end.JobEnd.{JobEnd}
use Rattle.task_race.proofs.truth.learn_ends.Given as goal

abbrev pub invariant-loop-end : goal.invariant-loop-end
invariant-loop-end l = (j : ℕ) (e : JobEnd FindingOf) → j < l.end-index → slice_get l.ends j ≡ Some e → (f : FindingOf) → Carries e f → IsTrueFinding f
