use Rattle.std.proofs.Common.{length, ◌-◌, ◌≡◌, ◌≤◌, ◌<◌, ℕ, take}
use lib.ListN.{get_or}
use Rattle.net_link.specs.Link.{Took}
use Rattle.net_request.proofs.reading.read_whole.Given as goal

abbrev pub invariant-loop-at : goal.invariant-loop-at
invariant-loop-at g l =
    (l.at ≤ length l.buf) × (length l.buf ≡ length l.initial.buf)
    × (g.L.Link.written l.link ≡ g.L.Link.written l.initial.link)
    × (g.L.Link.faults l.link ≡ g.L.Link.faults l.initial.link)
    × Took (g.L.Link.left l.initial.link) (g.L.Link.left l.link) (take l.at l.buf)
    × ((i : ℕ) → get_or l.buf i 0 < 256)

abbrev pub decreases-loop-at : goal.decreases-loop-at
decreases-loop-at g l = length l.initial.buf - l.at
