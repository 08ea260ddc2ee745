-- What words that were added have, whatever values the lines have.
use Rattle.std.specs.Prelude.{◌≡◌, ℕ, ◌+◌, ◌≤◌, length}
use Rattle.sby_bits.specs.Rows.{Row}
use Rattle.btor_core.specs.Shape.{BtorOf, open_words, width_at}
use Rattle.btor_core.specs.Meaning.{Values, Holds}
use Rattle.btor_core.specs.Fits.{IsBtor, IsWidth}
use Rattle.btor_core.specs.Growth.{Grows, KeepsLists}
use Rattle.btor_core.specs.declared.line.Word.{Word}

-- a line of a model that has a value of its width
pub record IsWord (m : BtorOf) (a : Word) : Type 0 where
  pub btor : IsBtor m
  pub size : IsWidth a.width
  pub width : width_at m.lines a.nid ≡ a.width

-- at most `most` lines were added, none of them an input or a state, by which P holds of all values
pub record Adds (old new : BtorOf) (most : ℕ) (P : Values → Type 0) : Type 0 where
  pub btor : IsBtor new
  pub grows : Grows old new
  pub lists : KeepsLists old new
  pub opened : open_words new.lines ≡ open_words old.lines
  pub few : length new.lines ≤ length old.lines + most
  pub holds : (vs : Values) → Holds new vs → P vs

-- the word has in each cycle this row of the cycle's values, w bits wide
pub record Emits (old new : BtorOf) (a : Word) (w most : ℕ) (row : Values → Row) : Type 0 where
  pub adds : Adds old new most (λ vs. vs a.nid ≡ row vs)
  pub word : IsWord new a
  pub size : a.width ≡ w
