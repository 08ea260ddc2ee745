-- Clauses that are present but not watched.
use Rattle.std.specs.Prelude.{ℕ, List, Option}
use Rattle.cnf_form.specs.Cnf.{LitOf}

-- the clause at each number, if it wasn't removed, over the variables from 1 to vars
pub record FrozenOf : Type 0 where
  pub vars : ℕ
  pub slots : List (Option (List LitOf))
