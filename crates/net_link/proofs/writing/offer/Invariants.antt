use Rattle.std.proofs.Common.{◌≡◌, ◌-◌, ◌≤◌, length, take}
use Rattle.net_link.specs.Link.{Grew}
use Rattle.net_link.proofs.writing.offer.Given as goal

abbrev pub invariant-loop-at : goal.invariant-loop-at
invariant-loop-at g l =
    (l.at ≤ length l.bytes) × Grew (g.L.Link.written l.fn.link) (g.L.Link.written l.link) (take l.at l.bytes) × (g.L.Link.left l.link ≡ g.L.Link.left l.fn.link) × (g.L.Link.faults l.link ≡ g.L.Link.faults l.fn.link)

abbrev pub decreases-loop-at : goal.decreases-loop-at
decreases-loop-at g l = length l.bytes - l.at
