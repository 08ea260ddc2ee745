-- What a sink has taken of lines.
use Rattle.std.specs.Prelude.{◌≡◌, ℕ, ◌<◌, ◌≤◌, List, ◌++◌, length, take, Option, option_map, Result, OnOk, IsErrOf}
use Rattle.std.specs.List.{concat}
use Rattle.sby_edge.specs.Cause.{Rose}
use Rattle.sby_edge.specs.Sink.{AreAll}
use Rattle.sby_lines.specs.declared.tell.Stop.{Stop}
use Rattle.sby_lines.specs.declared.tell.Stop.TheVariants.{Memory, Sink}

-- what is told, with these bytes after it
abbrev pub grown : Option (List ℕ) → List ℕ → Option (List ℕ)
grown before bytes = option_map (λ taken. taken ++ bytes) before

-- what is told has grown by a prefix of these bytes, and at least one is missing
abbrev pub GrownBySome : Option (List ℕ) → Option (List ℕ) → List ℕ → Type 0
GrownBySome before now bytes = (count : ℕ) × (count < length bytes) × (now ≡ grown before (take count bytes))

-- what is told has grown by the first of these lines, and at least one is missing
abbrev pub GrownByFirst : Option (List ℕ) → Option (List ℕ) → List (List ℕ) → Type 0
GrownByFirst before now lines = (count : ℕ) × (count < length lines) × (now ≡ grown before (concat (take count lines)))

-- These lines were offered to a sink: all were taken; or memory ran out for a line, and those before it were; or a call failed,
-- and a prefix of their bytes was, not all, and nothing after that call. The count of faults rose in this last case alone.
pub record Tells {T : Type 0} (before now : Option (List ℕ)) (faults_before faults : ℕ) (ended : Option ℕ) (lines : List (List ℕ)) (result : Result T Stop) : Type 0 where
  pub later : faults_before ≤ faults
  pub whole : OnOk result (now ≡ grown before (concat lines))
  pub memory : IsErrOf result Memory → GrownByFirst before now lines
  pub fault : IsErrOf result Sink → Rose faults_before faults × GrownBySome before now (concat lines)
  pub last : IsErrOf result Sink → AreAll ended now
  pub still : OnOk result (faults ≡ faults_before)
  pub still_memory : IsErrOf result Memory → faults ≡ faults_before
