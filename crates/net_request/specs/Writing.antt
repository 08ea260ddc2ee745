-- How far a job's bytes are written.
use Rattle.std.specs.Prelude.{◌≡◌, ℕ, List, ◌++◌, Option}
use Rattle.net_link.specs.Link.{Grew}

-- a source went from these bytes to those, and what it gave was written
pub record Sent (bytes rest : List ℕ) (before now : Option (List ℕ)) : Type 0 where
  pub given : List ℕ
  pub is : bytes ≡ given ++ rest
  pub grew : Grew before now given
