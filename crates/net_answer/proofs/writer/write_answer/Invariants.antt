use Rattle.std.proofs.Common.{◌≡◌, ◌-◌, ◌≤◌, length, take}
use Rattle.net_answer.specs.Written.{WroteWhole}
use Rattle.net_answer.proofs.writer.write_answer.Given as goal

abbrev pub invariant-loop-at : goal.invariant-loop-at
invariant-loop-at g l = (l.at ≤ length l.stream) × WroteWhole (g.L.Link.written l.fn.link) (g.L.Link.written l.link) (take l.at l.stream) × (g.L.Link.faults l.link ≡ g.L.Link.faults l.fn.link)

abbrev pub decreases-loop-at : goal.decreases-loop-at
decreases-loop-at g l = length l.stream - l.at
