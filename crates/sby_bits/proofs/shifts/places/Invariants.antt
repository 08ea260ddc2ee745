use Rattle.std.proofs.Common.{◌≡◌, ◌-◌, ◌^◌, min, map, not, take}
use Rattle.std.specs.Prelude.{if◌then◌else◌}
use Rattle.sby_bits.specs.Rows.{num}
use Rattle.sby_bits.proofs.shifts.places.Given as goal

abbrev pub invariant-loop-i : goal.invariant-loop-i
invariant-loop-i l = l.places ≡ min (num (take l.i (if l.turned then map not l.by else l.by))) (2 ^ 64 - 1)
