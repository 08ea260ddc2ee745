-- Where a problem is refused.
use Rattle.std.specs.Prelude.{◌≡◌, ℕ, ◌*◌, ◌<◌, ◌^◌, List, Some, slice_get}
use Rattle.judge.specs.Refused.{IsRefusedJob}
use Rattle.design_check.specs.Faults.{IsFault, IsFlat}
use Rattle.design_core.specs.Shape.{DesignOf}
use Rattle.design_graph.specs.Order.{IsOrder}
use Rattle.design_graph.specs.declared.driver.Driver.{Driver}
use Rattle.design_reader.specs.Faults.{IsReadFault}
use Rattle.design_reader.specs.Grammar.{Reads}
use Rattle.job_terms.specs.Encoding.{EncodedOf}
use Rattle.job_terms.specs.Jobs.{frames}
use Rattle.model_core.specs.Shape.{ModelOf}
use Rattle.model_laws.specs.Cost.{cost}
use Rattle.word_model.specs.Built.{IsBuilt}
use Rattle.sby_terms.specs.Problem.{ProblemOf}
use Rattle.sby_terms.specs.declared.names.JobName.{JobName}
use Rattle.sby_terms.specs.declared.span.Span.{Span}
use Rattle.judge.specs.Jobs.{AsksNothing, IsEarlier, jobs_of, span_of}
use Rattle.judge.specs.Problem.{IsEncodedJob}
use Rattle.judge.specs.declared.problem.ProblemFault.{ProblemFault}
use Rattle.judge.specs.declared.problem.ProblemFault.TheVariants.{Read, Design, TooMany}

-- A job of a flat design has too many variables: it asks something, and over the model that is built of the design's parts, in an order of
-- its drivers, it is refused; and each job before it is encoded over that model.
pub record IsTooMany (d : DesignOf) (job : JobName) (span : Span) : Type 0 where
  pub asks : AsksNothing d job → ⊥
  pub order : List Driver
  pub model : ModelOf
  pub ordered : IsOrder d order
  pub built : IsBuilt d order model
  pub refused : IsRefusedJob d model job span
  pub before : (earlier : JobName) → IsEarlier earlier job → (e : EncodedOf) × IsEncodedJob d model earlier span e

-- The text reads no design, and is refused so; or the design that it reads has the fault; or that design is flat, and one of its jobs has
-- too many variables, which is so only where its frames take more than 2 ^ 27 by the design's cost.
abbrev pub IsProblemFault : ProblemOf → ProblemFault → Type 0
IsProblemFault p (Read f) = ((d : DesignOf) → Reads p.text d → ⊥) × IsReadFault p.text f.byte f.kind
IsProblemFault p (Design f) = (d : DesignOf) × Reads p.text d × IsFault d f.kind f.name
IsProblemFault p (TooMany job) =
    (d : DesignOf) × Reads p.text d × IsFlat d × ((i : ℕ) × (slice_get (jobs_of p d) i ≡ Some job)) × IsTooMany d job (span_of p) × (2 ^ 27 < frames job (span_of p) * cost d)
