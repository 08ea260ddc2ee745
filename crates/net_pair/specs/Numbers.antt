-- State bits by numbers, each of which has a place.
use Rattle.std.specs.Prelude.{◌≡◌, ℕ, List, length, Option, Some, None, Contains, slice_get, slice_index_or}

-- A number whose place is that of a state bit, of which these are the places in their order, has this state, counted from 0, and a number whose
-- place is none has none.
pub record HaveStates (held places : List ℕ) (bits : List (Option ℕ)) : Type 0 where
  pub size : length bits ≡ length places
  pub some : (n k : ℕ) → slice_get bits n ≡ Some (Some k) → (place : ℕ) × (slice_get places n ≡ Some place) × (slice_get held k ≡ Some place)
  pub none : (n place : ℕ) → slice_get bits n ≡ Some None → slice_get places n ≡ Some place → Contains held place → ⊥

-- the state at a place by a table; past its end there is none
abbrev pub state_by : List (Option ℕ) → ℕ → Option ℕ
state_by table place = slice_index_or table place None

-- a table has the state of each place that is a state's, and none at the others
pub record IsTableOf (places : List ℕ) (table : List (Option ℕ)) : Type 0 where
  pub some : (place k : ℕ) → state_by table place ≡ Some k → slice_get places k ≡ Some place
  pub all : (place : ℕ) → Contains places place → (k : ℕ) × (state_by table place ≡ Some k)
