use Rattle.std.proofs.Common.{◌≡◌, ◌-◌, [], drop, get_or, take}
use Rattle.judge.proofs.run.part.Given as goal

abbrev pub invariant-loop-place : goal.invariant-loop-place
invariant-loop-place l = l.bits.items ≡ take (l.place - l.first) (drop l.first (get_or l.rows l.number []))
