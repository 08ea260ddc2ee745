-- What notes know of cells that are set once.
use Rattle.std.specs.Prelude.{◌≡◌, ℕ, zero, suc, List, [], ◌∷◌, Option, Some, None, IfSome, map}

-- what is known of one cell: its name, and its value, once that was seen
pub record NoteOf (T : Type 0) : Type 0 where
  pub cell : ℕ
  pub known : Option T

-- a note that knows nothing yet
abbrev pub fresh : {T : Type 0} → ℕ → NoteOf T
fresh name = record { cell = name; known = None }

-- the notes are of the cells with these names
abbrev pub AreNotesOf : {T : Type 0} → List ℕ → List (NoteOf T) → Type 0
AreNotesOf names notes = map (λ n. n.cell) notes ≡ names

-- what is known of the cell at a place
abbrev pub known_at : {T : Type 0} → List (NoteOf T) → ℕ → Option T
known_at [] place = None
known_at (n ∷ ns) zero = n.known
known_at (n ∷ ns) (suc place) = known_at ns place

-- a note that knows this value
abbrev pub knowing : {T : Type 0} → T → NoteOf T → NoteOf T
knowing value n = record n { known = Some value }

-- the notes, with this value known of the cell at a place, and of every other cell what was known
abbrev pub learned : {T : Type 0} → ℕ → T → List (NoteOf T) → List (NoteOf T)
learned place value [] = []
learned zero value (n ∷ ns) = knowing value n ∷ ns
learned (suc place) value (n ∷ ns) = n ∷ learned place value ns

-- a value is the one that is known, if one is
abbrev pub Agrees : {T : Type 0} → Option T → T → Type 0
Agrees known value = IfSome known (λ k. k ≡ value)

-- the notes learned this value of the cell at a place, which is the one that they knew, if they knew one
abbrev pub Learns : {T : Type 0} → ℕ → T → List (NoteOf T) → List (NoteOf T) → Type 0
Learns place value before now = (now ≡ learned place value before) × Agrees (known_at before place) value

-- the first, or where there is none the second
abbrev pub first_of : {T : Type 0} → Option T → Option T → Option T
first_of (Some value) other = Some value
first_of None other = other

-- what two notes of a cell know together
abbrev pub both : {T : Type 0} → NoteOf T → NoteOf T → NoteOf T
both n m = record n { known = first_of n.known m.known }

-- what two notes of the same cells know together
abbrev pub joined : {T : Type 0} → List (NoteOf T) → List (NoteOf T) → List (NoteOf T)
joined [] ms = []
joined (n ∷ ns) [] = n ∷ ns
joined (n ∷ ns) (m ∷ ms) = both n m ∷ joined ns ms

-- of a cell whose value both know, they know the same
abbrev pub Agree : {T : Type 0} → List (NoteOf T) → List (NoteOf T) → Type 0
Agree {T} ns ms = (place : ℕ) (a b : T) → known_at ns place ≡ Some a → known_at ms place ≡ Some b → a ≡ b
