use Rattle.std.proofs.Common.{◌≡◌, ℕ, ◌<◌, ◌≤◌, ◌++◌, [], List, length, take}
use Rattle.std.specs.Io.KnownBytes.{Appends}
use Rattle.child_edge.proofs.files.write_from.Given as goal

-- what was written, and what is still to be, are all
abbrev pub invariant-loop-filled : goal.invariant-loop-filled
invariant-loop-filled g l =
    (given : List ℕ) × Appends (g.W.Write.contents l.fn.writer) (g.W.Write.contents l.writer) given
    × (take l.fn.first l.fn.buffer ++ g.S.Source.rest l.fn.source ≡ given ++ (take l.filled l.buffer ++ g.S.Source.rest l.source))
    × (l.filled ≤ length l.buffer) × (l.filled < length l.buffer → g.S.Source.rest l.source ≡ [])

abbrev pub decreases-loop-filled : goal.decreases-loop-filled
decreases-loop-filled g l = length (take l.filled l.buffer ++ g.S.Source.rest l.source)
