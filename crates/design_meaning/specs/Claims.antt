-- What is claimed of a design's runs.
use Rattle.std.specs.Prelude.{◌≡◌, ℕ, suc, ◌<◌, ◌≤◌}
use Rattle.design_core.specs.Shape.{DesignOf}
use Rattle.design_meaning.specs.Meaning.{Valuation, Run, Assumed, Broken, Reached}

-- a run of n cycles, each of them assumed, whose last breaks assertion a
pub record Shows (d : DesignOf) (n : ℕ) (vs : ℕ → Valuation) (a : ℕ) : Type 0 where
  pub run : Run d n vs
  pub assumed : (t : ℕ) → t < n → Assumed d (vs t)
  pub last : (t : ℕ) → suc t ≡ n → Broken d (vs t) a

-- no run of more than k and at most n cycles breaks an assertion in its last
abbrev pub NoBreak : DesignOf → ℕ → ℕ → Type 0
NoBreak d k n = (m : ℕ) (vs : ℕ → Valuation) (a : ℕ) → k < m → m ≤ n → Shows d m vs a → ⊥

-- no run breaks an assertion, at any depth
abbrev pub NeverBreak : DesignOf → Type 0
NeverBreak d = (n : ℕ) → NoBreak d 0 n

-- a run of n cycles, each of them assumed, whose last reaches cover statement k
pub record ReachRun (d : DesignOf) (n : ℕ) (vs : ℕ → Valuation) (k : ℕ) : Type 0 where
  pub run : Run d n vs
  pub assumed : (t : ℕ) → t < n → Assumed d (vs t)
  pub last : (t : ℕ) → suc t ≡ n → Reached d (vs t) k

-- no run of at most n cycles reaches cover statement k in its last
abbrev pub NoReach : DesignOf → ℕ → ℕ → Type 0
NoReach d n k = (m : ℕ) (vs : ℕ → Valuation) → m ≤ n → ReachRun d m vs k → ⊥
