use Rattle.model_play.proofs.Packing.{ArePushed}
use Rattle.model_play.proofs.kept.add_row.Given as goal

abbrev pub invariant-loop-k : goal.invariant-loop-k
invariant-loop-k l = ArePushed l.fn.words.items l.words.items l.row l.k
