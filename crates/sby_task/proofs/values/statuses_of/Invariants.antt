use Rattle.std.proofs.Common.{◌≡◌, map, string_bytes}
use Rattle.sby_task.specs.Values.{statuses_from, statuses_of, later_pieces, pieces_left}
use Rattle.sby_task.proofs.Statuses.{prepended}
use Rattle.sby_task.proofs.values.statuses_of.Given as goal

abbrev pub invariant-pieces : goal.invariant-pieces
invariant-pieces l = prepended l.statuses.items (statuses_from (later_pieces l.rest)) ≡ statuses_of (map string_bytes l.value)

abbrev pub decreases-pieces : goal.decreases-pieces
decreases-pieces l = pieces_left l.rest
