use Rattle.std.proofs.Common.{◌≡◌}
use Rattle.model_play.specs.declared.player.Stage.TheVariants.{New}
use Rattle.play_tests.proofs.tests.played.play.Given as goal

abbrev pub invariant-loop-digits : goal.invariant-loop-digits
invariant-loop-digits l = record {
  model : l.player.model ≡ l.initial.player.model;
  begun : l.player.stage ≡ New → ⊥;
}
