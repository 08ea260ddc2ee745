-- What a search may spend, and what it has spent.
use Rattle.std.specs.Prelude.{◌≡◌, ℕ, ◌+◌, ◌≤◌}

pub record WorkOf : Type 0 where
  pub budget : ℕ
  pub conflicts : ℕ
  pub queries : ℕ

-- a conflict costs one, and so does a query, or the beginning of a search
abbrev pub spent : WorkOf → ℕ
spent w = w.conflicts + w.queries

-- nothing is left
abbrev pub IsSpent : WorkOf → Type 0
IsSpent w = spent w ≡ w.budget

-- more may have been spent of the same budget
pub record GoesOn (old new : WorkOf) : Type 0 where
  pub budget : new.budget ≡ old.budget
  pub conflicts : old.conflicts ≤ new.conflicts
  pub queries : old.queries ≤ new.queries
