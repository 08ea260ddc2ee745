use Rattle.std.proofs.Common.{◌≡◌, ◌+◌, take}
use Rattle.net_text.proofs.Writing.{gates_count}
use Rattle.net_text.proofs.pieces.count_clauses.Given as goal

abbrev pub invariant-loop-place : goal.invariant-loop-place
invariant-loop-place l = l.count ≡ 2 + gates_count (take l.place l.encoded.gates)
