-- The last pass: marks and numbers in tables.
use Rattle.std.specs.Prelude.{◌≡◌, ℕ, ◌<◌, ◌≤◌, Bool, false, ◌||◌, List, length, eqb, slice_index, slice_index_or}
use Rattle.cnf_form.specs.Cnf.{LitOf}
use Rattle.cnf_form.specs.declared.literal.TheConstants.{MAX_VARS}
use Rattle.bit_net.specs.Reaching.{is_one_of}
use Rattle.net_unroll.specs.Encoding.{number}

-- the marks are those for which a test passes
pub record HasMarks (marks : List Bool) (test : ℕ → Bool) : Type 0 where
  pub each : (v : ℕ) → v < length marks → slice_index_or marks v false ≡ test v

-- the numbers are those of a test
pub record HasNumbers (numbers : List ℕ) (test : ℕ → Bool) : Type 0 where
  pub each : (v : ℕ) → v < length numbers → slice_index numbers v ≡ number test v

-- the variable that is true, and those of some literals
abbrev pub begins : List LitOf → ℕ → Bool
begins goals v = eqb v 1 || is_one_of goals v

-- each is the number of a variable of a formula
abbrev pub AreNumbers : List ℕ → Type 0
AreNumbers numbers = (v : ℕ) → 0 < v → v < length numbers → (0 < slice_index numbers v) × (slice_index numbers v ≤ MAX_VARS)
