use Rattle.std.proofs.Common.{◌≡◌, take}
use Rattle.std.specs.Prelude.{filter}
use Rattle.lrat_check.proofs.Rising.{has}
use Rattle.lrat_check.proofs.entries.Table.live.Given as goal

abbrev pub invariant-loop-place : goal.invariant-loop-place
invariant-loop-place l = l.live ≡ filter has (take l.place l.self)
