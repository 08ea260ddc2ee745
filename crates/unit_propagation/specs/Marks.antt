-- A table that tells which literals are true.
use Rattle.std.specs.Prelude.{◌≡◌, ℕ, ◌+◌, ◌*◌, ◌^◌, ◌<◌, ◌≤◌, Bool, true, false, List, length, take, Contains, All, slice_index_or}
use Rattle.std.specs.List.{count_by}
use Rattle.cnf_form.specs.Cnf.{LitOf, index_of}
use Rattle.unit_propagation.specs.declared.watch.Origin.{Origin}
use Rattle.unit_propagation.specs.Propagation.{IsConsistent}

abbrev pub is_marked : List Bool → LitOf → Bool
is_marked marks l = slice_index_or marks (index_of l) false

-- the variable is at most vars
abbrev pub IsBelow : ℕ → LitOf → Type 0
IsBelow vars l = l.var ≤ vars

-- the table tells what is on the trail
pub record Shows (marks : List Bool) (trail : List LitOf) : Type 0 where
  pub on : (l : LitOf) → Contains trail l → is_marked marks l ≡ true
  pub off : (l : LitOf) → is_marked marks l ≡ true → Contains trail l

-- no literal stands twice
pub record IsDistinct (trail : List LitOf) : Type 0 where
  pub once : (i : ℕ) (d : LitOf) → i < length trail → Contains (take i trail) (slice_index_or trail i d) → ⊥

-- the trail and its bound
pub record TrailOf : Type 0 where
  pub vars : ℕ
  pub lits : List LitOf

-- what holds of a trail's fields: a table with a mark for each literal up to some place
pub record IsTrail (vars : ℕ) (marks : List Bool) (trail : List LitOf) : Type 0 where
  pub limit : vars ≤ 2 ^ 27
  pub sized : length marks ≤ 2 * vars + 2
  pub shows : Shows marks trail
  pub below : All (IsBelow vars) trail
  pub counted : count_by (λ b. b) marks ≡ length trail
  pub consistent : IsConsistent trail
  pub distinct : IsDistinct trail

-- the table has the place of each literal of the trail, by its variable
pub record IsPlaced (origins : List Origin) (trail : List LitOf) : Type 0 where
  pub within : (i : ℕ) (d : LitOf) → i < length trail → (slice_index_or trail i d).var < length origins
  pub placed : (i : ℕ) (d : LitOf) (e : Origin) → i < length trail → (slice_index_or origins (slice_index_or trail i d).var e).place ≡ i
