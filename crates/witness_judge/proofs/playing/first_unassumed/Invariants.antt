use Rattle.model_play.specs.Playing.{cycles_of}
use Rattle.witness_judge.specs.Playing.{AreAssumed}
use Rattle.witness_judge.proofs.playing.first_unassumed.Given as goal

abbrev pub invariant-loop-cycle : goal.invariant-loop-cycle
invariant-loop-cycle l = AreAssumed l.model l.cycle (cycles_of l.run)
