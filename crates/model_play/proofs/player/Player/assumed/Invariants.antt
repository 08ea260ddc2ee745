use Rattle.std.proofs.Common.{◌≡◌, ◌<◌, ◌&&◌, ℕ, not, false, Some}
use Rattle.std.specs.Prelude.{slice_get}
use Rattle.model_core.specs.declared.model.Statement.{Statement}
use Rattle.model_play.specs.Playing.{cycle_of}
use Rattle.model_play.proofs.player.Player.assumed.Given as goal

abbrev pub invariant-loop-statement : goal.invariant-loop-statement
invariant-loop-statement l = (k : ℕ) (s : Statement) → k < l.statement-index → slice_get l.statements k ≡ Some s
    → (cycle_of l.self-inside.table.items s.en && not (cycle_of l.self-inside.table.items s.a)) ≡ false
