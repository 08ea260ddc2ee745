-- A table of marks with two places for each variable, and the literals that are marked in it.
use Rattle.std.specs.Prelude.{◌≡◌, ℕ, ◌+◌, ◌*◌, ◌<◌, Bool, true, false, List, length, All, Contains, Some, slice_index_or}
use Rattle.cnf_form.specs.Cnf.{LitOf, negate, index_of}
use Rattle.lrat_check.specs.declared.propagation.Status.{Status}
use Rattle.lrat_check.specs.declared.propagation.Status.TheVariants.{Negated, OneLeft, MoreLeft}
use Rattle.lrat_check.specs.Hints.{Live, IsNegated, LeavesOne}

abbrev pub is_marked : List Bool → LitOf → Bool
is_marked marks l = slice_index_or marks (index_of l) false

-- the literal has its places
abbrev pub HasPlaces : List Bool → LitOf → Type 0
HasPlaces marks l = 2 * l.var + 1 < length marks

-- the literals that are marked are these
pub record Marks (marks : List Bool) (L : List LitOf) : Type 0 where
  pub marked : (l : LitOf) → Contains L l → is_marked marks l ≡ true
  pub only : (l : LitOf) → is_marked marks l ≡ true → Contains L l
  pub places : All (HasPlaces marks) L

-- nothing is marked
abbrev pub IsClear : List Bool → Type 0
IsClear marks = (l : LitOf) → is_marked marks l ≡ false

-- no literal stands among L with its negation
pub record IsConsistent (L : List LitOf) : Type 0 where
  pub apart : (l : LitOf) → Contains L l → Contains L (negate l) → ⊥

-- how many literals of the clause are not negated: none, one or more
abbrev pub ClauseStands : (LitOf → Type 0) → List LitOf → Status → Type 0
ClauseStands assigned c Negated = IsNegated assigned c
ClauseStands assigned c (OneLeft l) = LeavesOne assigned c l
ClauseStands assigned c MoreLeft = (IsNegated assigned c → ⊥) × ((l : LitOf) → LeavesOne assigned c l → ⊥)

-- each literal of each live clause has its places
abbrev pub ClausesHavePlaces : Live → List Bool → Type 0
ClausesHavePlaces live marks = (id : ℕ) (c : List LitOf) → live id ≡ Some c → All (HasPlaces marks) c

-- what holds of a checker's fields
pub record IsChecker (live : Live) (marks : List Bool) : Type 0 where
  pub clear : IsClear marks
  pub places : ClausesHavePlaces live marks
