use Rattle.frame_gates.specs.Rows.{IsWritten}
use Rattle.frame_gates.proofs.rows.write_row.Given as goal

abbrev pub invariant-loop-k : goal.invariant-loop-k
invariant-loop-k l = IsWritten l.places l.row l.k l.fn.table l.table
