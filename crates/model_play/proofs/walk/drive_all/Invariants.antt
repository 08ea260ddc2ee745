use Rattle.model_play.proofs.Models.{AreDriven}
use Rattle.model_play.proofs.walk.drive_all.Given as goal

abbrev pub invariant-loop-node : goal.invariant-loop-node
invariant-loop-node l = AreDriven l.model l.node l.fn.table l.table
