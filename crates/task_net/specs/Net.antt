-- The net of a task, and its jobs.
use Rattle.std.specs.Prelude.{◌≡◌, ◌↔◌, ◌^◌, ◌<◌, ◌≤◌, ℕ, Bool, false, List, [], map}
use Rattle.cnf_form.specs.Cnf.{Assignment, Satisfies}
use Rattle.sby_terms.specs.declared.names.JobName.{JobName}
use Rattle.sby_terms.specs.declared.names.JobName.TheVariants.{Step}
use Rattle.sby_terms.specs.declared.span.Span.{Span}
use Rattle.model_core.specs.Choices.{AreChoicesFor, open_states}
use Rattle.model_core.specs.Shape.{ModelOf, states}
use Rattle.model_cone.specs.Cone.{IsCone}
use Rattle.model_cone.specs.Slice.{sliced}
use Rattle.model_cone.specs.declared.asked.Asked.{Asked}
use Rattle.model_cone.specs.declared.asked.Asked.TheVariants as ask
use Rattle.bit_net.specs.Net.{IsNet, NetOf, vars}
use Rattle.frame_net.specs.NetOf.{IsNetOf, net_cost}
use Rattle.job_terms.specs.Encoding.{CanBeSatisfied, EncodedOf, IsDecoded, Propagates, decoded, empty_job}
use Rattle.job_terms.specs.Jobs.{AsksNothing, Solvable}
use Rattle.net_jobs.specs.Jobs.{job_made}
use Rattle.net_jobs.specs.Reading.{encoded_of}
use Rattle.task_net.specs.Asking.{HasOriginsInCone, asked_of}
use Rattle.task_net.specs.Spreading.{spread_decoding}

-- The net of the slice, the places of the slice's state bits, and of each open state bit of the model and of each input whether it is in the
-- slice.
pub record TaskNetOf : Type 0 where
  pub net : NetOf
  pub states : List ℕ
  pub starts : List Bool
  pub inputs : List Bool

-- no such statement stands in the model
abbrev pub HasNone : ModelOf → Asked → Type 0
HasNone m ask.Asserts = m.asserts ≡ []
HasNone m ask.Covers = m.covers ≡ []

-- a model of the two constants alone
abbrev pub no_model : ModelOf
no_model = record { size = 2; zero = 0; nodes = []; registers = []; starts = []; inputs = []; asserts = []; assumes = []; covers = [] }

-- The net is of this model, of which the places are that are kept.
pub record IsNetBy (m : ModelOf) (keep : ℕ → Bool) (slice : ModelOf) (t : TaskNetOf) : Type 0 where
  pub net : IsNet t.net
  pub is : IsNetOf slice t.net
  pub few : vars t.net ≤ net_cost slice
  pub states : t.states ≡ states slice
  pub starts : t.starts ≡ map keep (open_states m)
  pub inputs : t.inputs ≡ map keep m.inputs

-- A task's net is that of the slice to the cone of what it asks; where the model has no such statement, that of the constants.
pub data IsTaskNet (m : ModelOf) (asked : Asked) (t : TaskNetOf) : Type 0 where
  AsksNone : HasNone m asked → IsNetBy m (λ p. false) no_model t → IsTaskNet m asked t
  AsksSome : (keep : ℕ → Bool) → IsCone m asked keep → IsNetBy m keep (sliced keep m) t → IsTaskNet m asked t

-- the variables of one cycle of the slice can pass 2 ^ 27
pub record IsTooLarge (m : ModelOf) (asked : Asked) : Type 0 where
  pub asks : HasNone m asked → ⊥
  pub keep : ℕ → Bool
  pub cone : IsCone m asked keep
  pub past : 2 ^ 27 < net_cost (sliced keep m)

-- A job is refused: one cycle of the slice can take too many variables, or over the net of what the task asks the job's gates, shared and
-- folded, take more than 2 ^ 27.
pub data IsTooMany (m : ModelOf) (job : JobName) (span : Span) : Type 0 where
  Large : IsTooLarge m (asked_of job) → IsTooMany m job span
  Long : (t : TaskNetOf) → IsTaskNet m (asked_of job) t → 2 ^ 27 < job_made t.net job span → IsTooMany m job span

-- a job of a task as it is encoded: what tells a run of the slice is spread over the model
abbrev pub task_encoded : TaskNetOf → JobName → Span → EncodedOf
task_encoded t job span = record {
  formula = (encoded_of t.net job span).formula;
  free_vars = (encoded_of t.net job span).free_vars;
  decoding = spread_decoding t.starts t.inputs (encoded_of t.net job span).decoding;
}

-- What is promised of a job's encoding: its formula can be satisfied exactly where the job can be solved, and has from 1 to 2 ^ 27
-- variables; where its free variables are fixed, unit propagation finds a conflict or fixes all others; each of these stands for a bit
-- in the cone that the job leaves free; where nothing is asked the formula is one variable and the empty clause; and, but for Step, each
-- assignment tells choices for a run of the model, and one that satisfies the formula those for a run that shows the job's goal.
pub record IsEncodedJob (m : ModelOf) (job : JobName) (span : Span) (e : EncodedOf) : Type 0 where
  pub speaks : CanBeSatisfied e.formula ↔ Solvable m job span
  pub vars : (1 ≤ e.formula.vars) × (e.formula.vars ≤ 2 ^ 27)
  pub propagates : Propagates e
  pub origins : HasOriginsInCone m job span e
  pub empty : AsksNothing m job → e.formula ≡ empty_job
  pub choices : (job ≡ Step → ⊥) → (x : Assignment) → AreChoicesFor m (decoded e x)
  pub decodes : (job ≡ Step → ⊥) → (x : Assignment) → Satisfies x e.formula.clauses → IsDecoded m job span (decoded e x)
