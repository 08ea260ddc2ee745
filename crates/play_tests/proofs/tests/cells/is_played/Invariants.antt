use Rattle.std.proofs.Common.{◌≡◌}
use Rattle.model_play.specs.declared.player.Stage.TheVariants.{New}
use Rattle.play_tests.proofs.tests.cells.is_played.Given as goal

abbrev pub invariant-loop-row : goal.invariant-loop-row
invariant-loop-row l = record {
  model : l.player.model ≡ l.initial.player.model;
  begun : l.player.stage ≡ New → ⊥;
}
