use Rattle.std.proofs.Common.{◌<◌, ℕ, false, Some, ◌≡◌}
use Rattle.std.specs.Prelude.{[], slice_get, slice_index_or}
use Rattle.model_core.specs.declared.model.Statement.{Statement}
use Rattle.model_play.proofs.Saying.{IsFailing}
use Rattle.witness_judge.proofs.playing.is_assumed.Given as goal

abbrev pub invariant-loop-statement : goal.invariant-loop-statement
invariant-loop-statement l = (k : ℕ) (s : Statement) → k < l.statement-index → slice_get l.statements k ≡ Some s → IsFailing (slice_index_or l.run l.cycle []) s false
