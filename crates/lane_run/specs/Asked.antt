-- What a task asks of its lanes.
use Rattle.std.specs.Prelude.{◌≡◌, ℕ, Option, Some, None}
use Rattle.sby_terms.specs.Problem.{ProblemOf}
use Rattle.sby_terms.specs.declared.names.Mode.{Mode}
use Rattle.sby_terms.specs.declared.names.JobName.{JobName}
use Rattle.sby_terms.specs.declared.names.JobName.TheVariants as name
use Rattle.race_core.specs.Asking.{name_at}
use Rattle.race_core.specs.declared.step.JobTerms.{JobTerms}
use Rattle.lane_run.specs.declared.task.Limit.{Limit}

-- the terms of the job at a place, whose cell is at the same place
abbrev pub terms_at : Mode → Limit → ℕ → JobTerms
terms_at mode limit k = record { cell = k; job = name_at mode k; wait = limit.wait; start = limit.start; limit = limit.millis }

-- the cell of another job that can make a job needless, and that job: Base's, for Step and Inv
abbrev pub other_of : JobName → Option (ℕ × JobName)
other_of name.Step = Some (0, name.Base 0)
other_of name.Inv = Some (0, name.Base 0)
other_of (name.Base k) = None
other_of (name.Cover k) = None

-- a finding of this problem for the job at a place
abbrev pub IsFor : {T : Type 0} → (T → ProblemOf) → (T → JobName) → ProblemOf → Mode → ℕ → T → Type 0
IsFor problem job p mode k f = (problem f ≡ p) × (job f ≡ name_at mode k)
