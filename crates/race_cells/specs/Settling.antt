-- What comes of settling a cell.
use Rattle.std.specs.Prelude.{◌≡◌, ℕ, List, None}
use Rattle.race_cells.specs.Notes.{NoteOf, Agrees, Learns, knowing, known_at}
use Rattle.race_cells.specs.declared.cells.Settling.{Settling}
use Rattle.race_cells.specs.declared.cells.Settling.TheVariants.{Won, Lost}

-- won: nothing was known, and the value is known now; lost: the value comes back, and some value is known
abbrev pub Settles : {T : Type 0} → ℕ → T → List (NoteOf T) → List (NoteOf T) → Settling T → Type 0
Settles place value before now Won = (known_at before place ≡ None) × Learns place value before now
Settles {T} place value before now (Lost back) = (back ≡ value) × ((other : T) × Learns place other before now)

-- the same of one cell's note
abbrev pub SettlesOne : {T : Type 0} → T → NoteOf T → NoteOf T → Settling T → Type 0
SettlesOne value before now Won = (before.known ≡ None) × (now ≡ knowing value before)
SettlesOne {T} value before now (Lost back) = (back ≡ value) × ((other : T) × (now ≡ knowing other before) × Agrees before.known other)
