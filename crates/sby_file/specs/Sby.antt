-- A text that is a task file.
use Rattle.std.specs.Prelude.{◌≡◌, ℕ, List, []}
use Rattle.sby_file.specs.Placed.{placed}
use Rattle.sby_file.specs.Faults.{faults_of}
use Rattle.sby_file.specs.Config.{ConfigOf, nothing, with_lines}

-- no line is at fault, and the file holds what its lines say
pub record SbyText (bytes : List ℕ) (config : ConfigOf) : Type 0 where
  pub sound : faults_of bytes ≡ []
  pub holds : config ≡ with_lines nothing (placed bytes)
