use Rattle.std.proofs.Common.{◌≡◌, take}
use Rattle.race_cells.proofs.notes.Notes.again.Given as goal

abbrev pub invariant-loop-place : goal.invariant-loop-place
invariant-loop-place g l = (l.self-inside.notes.items ≡ l.initial.self-inside.notes.items) × (l.notes.items ≡ take l.place l.initial.self-inside.notes.items)
