-- Stretches of places that stand one after another, and places that get new seats.
use Rattle.std.specs.Prelude.{◌≡◌, ◌⊎◌, ℕ, ◌+◌, ◌<◌, Bool, false, List, Some, Contains, length, slice_get}
use Rattle.btor_core.specs.declared.line.Word.{Word}
use Rattle.btor_emit.specs.declared.table.Seat.{Seat}
use Rattle.btor_emit.specs.declared.table.Seat.TheVariants.{Bit, Digit}
use Rattle.btor_emit.specs.Table.{Table, seat_at}

-- the seat this many bits later
abbrev pub later : Seat → ℕ → Seat
later (Digit x) k = Digit x
later (Bit w i) k = Bit w (i + k)

-- the places from one of the list to another stand after the seat, one after the other
abbrev pub IsStretch : Table → List ℕ → ℕ → ℕ → Seat → Type 0
IsStretch table places first end s = (j k p : ℕ) → first + j ≡ k → k < end → slice_get places k ≡ Some p → seat_at table p ≡ later s j

-- the digit of a seat; a bit of a word has none
abbrev pub IsDigit : Seat → Type 0
IsDigit (Digit x) = Unit {0}
IsDigit (Bit w i) = ⊥

abbrev pub digit_in : Seat → Bool
digit_in (Digit x) = x
digit_in (Bit w i) = false

-- a place of the list may stand in the row now, at a place of the list that it is; all else stands where it stood
pub record IsReseated (before now : Table) (places : List ℕ) (row : Word) : Type 0 where
  pub size : length now ≡ length before
  pub each : (p : ℕ) → ((k : ℕ) × (slice_get places k ≡ Some p) × (slice_get now p ≡ Some (Bit row k))) ⊎ (slice_get now p ≡ slice_get before p)

-- each place of the list is a bit of the word, and all else stands where it stood
pub record IsSeated (before now : Table) (places : List ℕ) (word : Word) : Type 0 where
  pub size : length now ≡ length before
  pub each : (p : ℕ) → ((k : ℕ) × (slice_get places k ≡ Some p) × (slice_get now p ≡ Some (Bit word k))) ⊎ ((Contains places p → ⊥) × (slice_get now p ≡ slice_get before p))
