use Rattle.std.proofs.Common.{◌≡◌}
use Rattle.race_cells.proofs.Lists.{AgreeBelow, upto}
use Rattle.race_cells.proofs.notes.Notes.join.Given as goal

abbrev pub invariant-loop-place : goal.invariant-loop-place
invariant-loop-place g l =
    (l.self-inside.notes.items ≡ upto l.place l.initial.self-inside.notes.items l.initial.other-inside.notes.items)
    × (l.other-inside.notes.items ≡ l.initial.other-inside.notes.items)
    × AgreeBelow l.place l.initial.self-inside.notes.items l.initial.other-inside.notes.items
