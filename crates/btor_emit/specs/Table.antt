-- Where the bits of a model stand in the lines, and the cycle that the lines' values are.
use Rattle.std.specs.Prelude.{◌≡◌, ℕ, ◌<◌, Bool, false, List, All, length, slice_index_or}
use Rattle.sby_bits.specs.Rows.{Row}
use Rattle.btor_core.specs.Shape.{BtorOf}
use Rattle.btor_core.specs.Meaning.{Values, Holds}
use Rattle.btor_core.specs.declared.line.Word.{Word}
use Rattle.btor_words.specs.Emitting.{Adds, IsWord}
use Rattle.btor_emit.specs.declared.table.Seat.{Seat}
use Rattle.btor_emit.specs.declared.table.Seat.TheVariants.{Bit, Digit}
use Rattle.model_core.specs.Meaning.{Cycle}

abbrev pub Table : Type 0
Table = List Seat

-- where a place stands; a place past the table's end is 0
abbrev pub seat_at : Table → ℕ → Seat
seat_at table p = slice_index_or table p (Digit false)

-- what a seat has
abbrev pub bit_in : Values → Seat → Bool
bit_in vs (Digit x) = x
bit_in vs (Bit w i) = slice_index_or (vs w.nid) i false

-- the cycle that the table reads off the lines' values
abbrev pub cycle_of : Table → Values → Cycle
cycle_of table vs p = bit_in vs (seat_at table p)

-- a digit, or a bit of a word that stands there
abbrev pub IsSeat : BtorOf → Seat → Type 0
IsSeat m (Digit x) = Unit {0}
IsSeat m (Bit w i) = IsWord m w × (i < w.width)

-- each place stands somewhere
abbrev pub AreSeats : BtorOf → Table → Type 0
AreSeats m table = All (IsSeat m) table

-- the places are all of the table
abbrev pub AreIn : Table → List ℕ → Type 0
AreIn table places = All (λ p. p < length table) places

-- at most `most` lines were added, by which P holds, and each place has what it had
pub record Turns (old new : BtorOf) (before now : Table) (most : ℕ) (P : Values → Type 0) : Type 0 where
  pub adds : Adds old new most P
  pub size : length now ≡ length before
  pub seats : AreSeats new now
  pub same : (vs : Values) → Holds new vs → (p : ℕ) → cycle_of now vs p ≡ cycle_of before vs p

-- the word has in each cycle this row, w bits wide, and each place has what it had
pub record Puts (old new : BtorOf) (before now : Table) (a : Word) (w most : ℕ) (row : Values → Row) : Type 0 where
  pub turns : Turns old new before now most (λ vs. vs a.nid ≡ row vs)
  pub word : IsWord new a
  pub size : a.width ≡ w
