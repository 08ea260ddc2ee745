-- The number with which a task ends.
use Rattle.std.specs.Prelude.{◌≡◌, ◌≢◌, ℕ, List, Contains}
use Rattle.sby_terms.specs.declared.names.Status.{Status}
use Rattle.sby_terms.specs.declared.names.Status.TheVariants.{Pass, Fail, Unknown, Error, Timeout, Memory}

-- the number of a status
abbrev pub code_of : Status → ℕ
code_of Pass = 1
code_of Fail = 2
code_of Unknown = 4
code_of Timeout = 8
code_of Error = 16
code_of Memory = 32

-- a status that is expected gives 0, but for MEMORY, which can't be expected; any other gives its number
pub record HasCode (expect : List Status) (status : Status) (code : ℕ) : Type 0 where
  pub expected : status ≢ Memory → Contains expect status → code ≡ 0
  pub unexpected : (¬ Contains expect status) → code ≡ code_of status
  pub memory : status ≡ Memory → code ≡ 32
