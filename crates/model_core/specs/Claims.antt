-- What can be shown of a model's runs: the words that jobs are said in.
use Rattle.std.specs.Prelude.{◌≡◌, ℕ, suc, ◌<◌}
use Rattle.model_core.specs.Shape.{ModelOf}
use Rattle.model_core.specs.Meaning.{Cycle, Window, Run, Assumed, Broken, Reached}

-- a run of n cycles, each of them assumed, whose last breaks assertion a
pub record Shows (m : ModelOf) (n : ℕ) (cs : ℕ → Cycle) (a : ℕ) : Type 0 where
  pub run : Run m n cs
  pub assumed : (t : ℕ) → t < n → Assumed m (cs t)
  pub last : (t : ℕ) → suc t ≡ n → Broken m (cs t) a

-- n + 1 neighbouring cycles from any state, each of them assumed: the first n break no assertion, the last breaks a
pub record StepShows (m : ModelOf) (n : ℕ) (cs : ℕ → Cycle) (a : ℕ) : Type 0 where
  pub window : Window m (suc n) cs
  pub assumed : (t : ℕ) → t < suc n → Assumed m (cs t)
  pub before : (t b : ℕ) → t < n → Broken m (cs t) b → ⊥
  pub last : Broken m (cs n) a

-- a run of n cycles, each of them assumed, whose last reaches cover statement k
pub record ReachRun (m : ModelOf) (n : ℕ) (cs : ℕ → Cycle) (k : ℕ) : Type 0 where
  pub run : Run m n cs
  pub assumed : (t : ℕ) → t < n → Assumed m (cs t)
  pub last : (t : ℕ) → suc t ≡ n → Reached m (cs t) k
