use Rattle.std.proofs.Common.{◌≡◌, length}
use Rattle.sby_file.specs.Faults.{is_closed}
use Rattle.sby_file.proofs.seen.is_closed.Given as goal

abbrev pub invariant-lines : goal.invariant-lines
invariant-lines l = is_closed l.walk ≡ is_closed l.initial.walk

abbrev pub decreases-lines : goal.decreases-lines
decreases-lines l = length l.walk
