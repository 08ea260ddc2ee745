use Rattle.model_play.proofs.Tables.{IsWritten}
use Rattle.model_play.proofs.table.write_row.Given as goal

abbrev pub invariant-loop-k : goal.invariant-loop-k
invariant-loop-k l = IsWritten l.places l.row l.k l.fn.table l.table
