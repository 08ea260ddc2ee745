-- What a task's jobs ask of their model, and where their free variables stand.
use Rattle.std.specs.Prelude.{ℕ, All}
use Rattle.model_core.specs.Shape.{ModelOf}
use Rattle.model_cone.specs.Cone.{IsInCone}
use Rattle.model_cone.specs.declared.asked.Asked.{Asked}
use Rattle.model_cone.specs.declared.asked.Asked.TheVariants as ask
use Rattle.sby_terms.specs.declared.names.JobName.{JobName}
use Rattle.sby_terms.specs.declared.names.JobName.TheVariants.{Base, Step, Inv, Cover}
use Rattle.sby_terms.specs.declared.span.Span.{Span}
use Rattle.job_terms.specs.Encoding.{EncodedOf, HasOrigins, Origin}
use Rattle.job_terms.specs.Encoding.Origin.{First, Input}

-- what a task asks that has this job: all assertions, or all cover statements
abbrev pub asked_of : JobName → Asked
asked_of (Base i) = ask.Asserts
asked_of Step = ask.Asserts
asked_of Inv = ask.Asserts
asked_of (Cover k) = ask.Covers

-- the place for which a free variable stands
abbrev pub place_of : Origin → ℕ
place_of (First p) = p
place_of (Input t p) = p

-- each free variable stands for a bit that the job leaves free, and that is in the cone of what the task asks
pub record HasOriginsInCone (m : ModelOf) (job : JobName) (span : Span) (e : EncodedOf) : Type 0 where
  pub has : HasOrigins m job span e
  pub cone : All (λ o. IsInCone m (asked_of job) (place_of o)) has.origins
