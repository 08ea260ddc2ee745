use Rattle.std.proofs.Common.{◌≡◌, ◌++◌, take}
use Rattle.btor_emit.proofs.Rowing.{singles}
use Rattle.btor_emit.proofs.rows.push_singles.Given as goal

abbrev pub invariant-loop-place : goal.invariant-loop-place
invariant-loop-place l = l.read ≡ l.fn.read ++ singles l.marks l.taken (take l.place-index l.places)
