use Rattle.std.proofs.Common.{length, ◌-◌, ◌≡◌, ◌≤◌}
use Rattle.net_link.specs.Link.{Took}
use Rattle.net_request.proofs.reading.read_bytes.Given as goal

abbrev pub invariant-loop-buffer : goal.invariant-loop-buffer
invariant-loop-buffer g l =
    (length l.bytes.items ≤ l.count) × (length l.buffer ≡ 4096)
    × (g.L.Link.written l.link ≡ g.L.Link.written l.initial.link)
    × (g.L.Link.faults l.link ≡ g.L.Link.faults l.initial.link)
    × Took (g.L.Link.left l.initial.link) (g.L.Link.left l.link) l.bytes.items

abbrev pub decreases-loop-buffer : goal.decreases-loop-buffer
decreases-loop-buffer g l = l.count - length l.bytes.items
