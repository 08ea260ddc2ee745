use Rattle.std.proofs.Common.{take}
use Rattle.model_play.proofs.Wholes.{IsPacked}
use Rattle.model_play.proofs.whole.play.Given as goal

abbrev pub invariant-loop-cycle : goal.invariant-loop-cycle
invariant-loop-cycle l = IsPacked l.model l.player (record { starts = l.choices.starts; inputs = take l.cycle l.choices.inputs }) l.words.items
