use Rattle.std.proofs.Common.{ℕ, ◌<◌}
use Rattle.sby_lines.specs.Told.{IsStoppedIn}
use Rattle.sby_lines.proofs.printed.stopped_in.Given as goal

abbrev pub invariant-loop-place : goal.invariant-loop-place
invariant-loop-place l = (k t : ℕ) → k < l.place → IsStoppedIn l.answers l.report k t → ⊥
