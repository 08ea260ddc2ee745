-- Statements as lines that were added.
use Rattle.std.specs.Prelude.{◌≡◌, ℕ, ◌+◌, ◌*◌, ◌≤◌, Bool, not, ◌&&◌, ◌||◌, List, [], ◌∷◌, ◌++◌, Some, length, slice_get}
use Rattle.btor_core.specs.Fits.{IsBtor}
use Rattle.btor_core.specs.Growth.{Grows}
use Rattle.btor_core.specs.Meaning.{Holds, Values}
use Rattle.btor_core.specs.Shape.{BtorOf, inits, nexts, open_words}
use Rattle.btor_core.specs.declared.line.Line.{Line}
use Rattle.model_core.specs.Meaning.{Cycle}
use Rattle.model_core.specs.declared.model.Statement.{Statement}
use Rattle.btor_emit.specs.declared.goal.Goal.{Goal}
use Rattle.btor_emit.specs.declared.goal.Goal.TheVariants as goal
use Rattle.btor_emit.specs.Table.{AreSeats, Table, cycle_of}

-- what statements say of a cycle
abbrev pub is_held : Cycle → Statement → Bool
is_held c s = not (c s.en) || c s.a

abbrev pub is_broken : Cycle → Statement → Bool
is_broken c s = c s.en && not (c s.a)

abbrev pub is_reached : Cycle → Statement → Bool
is_reached c s = c s.en && c s.a

-- the bit of a statement that is asked
abbrev pub goal_bit : Goal → Cycle → Statement → Bool
goal_bit goal.Asserts = is_broken
goal_bit (goal.Cover j) = is_reached

-- lines were added which add these to one list of a model, and nothing to the others; each place has what it had
pub record OnlySays (of other : List Line → List ℕ) (old new : BtorOf) (before now : Table) (most : ℕ) (said : List ℕ) : Type 0 where
  pub btor : IsBtor new
  pub grows : Grows old new
  pub opened : open_words new.lines ≡ open_words old.lines
  pub inits : inits new.lines ≡ inits old.lines
  pub nexts : nexts new.lines ≡ nexts old.lines
  pub more : of new.lines ≡ of old.lines ++ said
  pub kept : other new.lines ≡ other old.lines
  pub size : length now ≡ length before
  pub seats : AreSeats new now
  pub same : (vs : Values) → Holds new vs → (p : ℕ) → cycle_of now vs p ≡ cycle_of before vs p
  pub few : length new.lines ≤ length old.lines + most

-- one line was added to the list, which has this bit
pub record Says (of other : List Line → List ℕ) (old new : BtorOf) (before now : Table) (bit : Values → Bool) : Type 0 where
  pub n : ℕ
  pub only : OnlySays of other old new before now 13 (n ∷ [])
  pub holds : (vs : Values) → Holds new vs → vs n ≡ bit vs ∷ []

-- a line for each statement
pub record AreSaid (of other : List Line → List ℕ) (old new : BtorOf) (before now : Table) (statements : List Statement) (holds : Cycle → Statement → Bool) : Type 0 where
  pub said : List ℕ
  pub only : OnlySays of other old new before now (13 * length statements) said
  pub long : length said ≡ length statements
  pub each : (k n : ℕ) (s : Statement) → slice_get statements k ≡ Some s → slice_get said k ≡ Some n → (vs : Values) → Holds new vs → vs n ≡ holds (cycle_of before vs) s ∷ []
