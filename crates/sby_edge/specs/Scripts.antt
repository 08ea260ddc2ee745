-- Which script a yard of scripts has for a child.
use Rattle.std.specs.Prelude.{ℕ, ◌==◌, Bool, true, false, cond, List, [], ◌∷◌}
use Rattle.std.proofs.Common.{◌&&◌}
use Rattle.sby_edge.specs.Script.{ScriptOf}
use Rattle.sby_terms.specs.declared.names.JobName.{JobName}
use Rattle.sby_terms.specs.declared.names.JobName.TheVariants.{Base, Step, Inv, Cover}

-- the script of one child
pub record ScriptedOf : Type 0 where
  pub task : ℕ
  pub lane : ℕ
  pub job : JobName
  pub script : ScriptOf

-- two names of one job
abbrev pub is_job : JobName → JobName → Bool
is_job (Base m) (Base n) = m == n
is_job (Base m) Step = false
is_job (Base m) Inv = false
is_job (Base m) (Cover n) = false
is_job Step (Base n) = false
is_job Step Step = true
is_job Step Inv = false
is_job Step (Cover n) = false
is_job Inv (Base n) = false
is_job Inv Step = false
is_job Inv Inv = true
is_job Inv (Cover n) = false
is_job (Cover m) (Base n) = false
is_job (Cover m) Step = false
is_job (Cover m) Inv = false
is_job (Cover m) (Cover n) = m == n

abbrev pub is_for : ScriptedOf → ℕ → ℕ → JobName → Bool
is_for s task lane job = (s.task == task && s.lane == lane) && is_job s.job job

-- the first script of the list for this child, or the one of all others
abbrev pub script_at : List ScriptedOf → ScriptOf → ℕ → ℕ → JobName → ScriptOf
script_at [] other task lane job = other
script_at (s ∷ ss) other task lane job = cond (is_for s task lane job) s.script (script_at ss other task lane job)
