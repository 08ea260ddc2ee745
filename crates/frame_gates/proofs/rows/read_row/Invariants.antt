use Rattle.std.proofs.Common.{◌≡◌, take}
use Rattle.frame_gates.specs.Frames.{lits_at}
use Rattle.frame_gates.proofs.rows.read_row.Given as goal

abbrev pub invariant-loop-place : goal.invariant-loop-place
invariant-loop-place l = l.row.items ≡ lits_at l.table (take l.place-index l.places)
