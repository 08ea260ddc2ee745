use Rattle.std.proofs.Common.{◌+◌, ◌<◌, ℕ}
use Rattle.pdr_run.specs.Breaking.{Follows}
use Rattle.pdr_run.specs.Deciding.{cycle_at}
use Rattle.pdr_run.proofs.breaking.all_follow.Given as goal

abbrev pub invariant-loop-place : goal.invariant-loop-place
invariant-loop-place l = (i : ℕ) → i + 1 < l.place → Follows l.pair (cycle_at l.cycles i) (cycle_at l.cycles (i + 1))
