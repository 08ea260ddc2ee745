use Rattle.std.proofs.Common.{◌≡◌}
use Rattle.race_cells.proofs.Lists.{AgreeBelow}
use Rattle.race_cells.proofs.notes.Notes.agree.Given as goal

abbrev pub invariant-loop-place : goal.invariant-loop-place
invariant-loop-place g l =
    (l.self-inside.notes.items ≡ l.initial.self-inside.notes.items) × (l.other-inside.notes.items ≡ l.initial.other-inside.notes.items)
    × AgreeBelow l.place l.initial.self-inside.notes.items l.initial.other-inside.notes.items
