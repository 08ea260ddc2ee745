use Rattle.std.proofs.Common.{◌≡◌, ◌++◌, length}
use Rattle.sby_file.specs.Config.{content_of}
use Rattle.sby_file.proofs.config.content.Given as goal

abbrev pub invariant-lines : goal.invariant-lines
invariant-lines l = l.bytes.items ++ content_of l.walk ≡ content_of l.initial.walk

abbrev pub decreases-lines : goal.decreases-lines
decreases-lines l = length l.walk
