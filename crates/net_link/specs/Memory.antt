-- What contracts see of the forms in memory.
use Rattle.std.specs.Prelude.{ℕ, List}
use Rattle.sby_edge.specs.Calls.{CallsOf}

-- a link in memory: the bytes left and written, how many more it takes, and its calls
pub record LinkOf : Type 0 where
  pub left : List ℕ
  pub written : List ℕ
  pub room : ℕ
  pub calls : CallsOf
