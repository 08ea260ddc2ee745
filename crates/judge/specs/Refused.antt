-- When a job has too many variables.
use Rattle.std.specs.Prelude.{ℕ, ◌<◌, ◌^◌, List, Option}
use Rattle.design_core.specs.Shape.{DesignOf}
use Rattle.model_core.specs.Shape.{ModelOf}
use Rattle.net_pair.specs.Numbers.{HaveStates}
use Rattle.sby_terms.specs.declared.names.JobName.{JobName}
use Rattle.sby_terms.specs.declared.span.Span.{Span}
use Rattle.task_net.specs.Asking.{asked_of}
use Rattle.task_net.specs.Net.{IsTaskNet, IsTooLarge, TaskNetOf}
use Rattle.word_model.specs.Numbers.{numbered_places}
use Rattle.judge.specs.Problem.{job_size}

-- A job of a design is refused over its model: one cycle of the slice to what the task asks can take too many variables, or more than 2 ^ 27
-- are made for the job over the net of that slice.
pub data IsRefusedJob (d : DesignOf) (m : ModelOf) (job : JobName) (span : Span) : Type 0 where
  Large : IsTooLarge m (asked_of job) → IsRefusedJob d m job span
  Long : (t : TaskNetOf) (bits : List (Option ℕ)) → IsTaskNet m (asked_of job) t → HaveStates t.states (numbered_places d) bits
      → 2 ^ 27 < job_size t.net bits job span → IsRefusedJob d m job span
