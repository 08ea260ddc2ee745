-- How a problem is kept: its model with what is known of it, and the names of its jobs.
use Rattle.std.specs.Prelude.{◌≡◌, ℕ, ◌<◌, ◌≤◌, ◌^◌, List, Option, Some, slice_get}
use Rattle.task_net.specs.Net.{TaskNetOf}
use Rattle.judge.specs.Refused.{IsRefusedJob}
use Rattle.design_core.specs.Shape.{DesignOf, IsDesign}
use Rattle.job_terms.specs.Encoding.{EncodedOf}
use Rattle.model_core.specs.Served.{IsModel}
use Rattle.model_core.specs.Shape.{ModelOf}
use Rattle.design_graph.specs.Order.{IsOrder}
use Rattle.design_graph.specs.declared.driver.Driver.{Driver}
use Rattle.word_model.specs.Built.{IsBuilt}
use Rattle.word_model.specs.Model.{IsModelOf}
use Rattle.sby_terms.specs.declared.names.JobName.{JobName}
use Rattle.sby_terms.specs.declared.names.Mode.{Mode}
use Rattle.sby_terms.specs.declared.span.Span.{Span}
use Rattle.judge.specs.Jobs.{jobs_of}
use Rattle.judge.specs.Problem.{AskedOf, IsEncodedJob, IsProblem, ShapeOf, job_size}

-- what is asked, from what is kept
abbrev pub asked_by : List ℕ → Mode → Span → DesignOf → ModelOf → ShapeOf → TaskNetOf → List (Option ℕ) → AskedOf
asked_by text mode span d m shape net bits = record { problem = record { text = text; mode = mode; span = span }; design = d; model = m; shape = shape; net = net; bits = bits }

-- it is a problem, and these are its jobs
pub record IsStored (p : AskedOf) (kept : List JobName) : Type 0 where
  pub problem : IsProblem p
  pub names : kept ≡ jobs_of p.problem p.design

-- the design's model, by its parts in some order of the drivers
pub record IsBuiltFor (d : DesignOf) (m : ModelOf) : Type 0 where
  pub design : IsDesign d
  pub is_model : IsModel m
  pub model : IsModelOf d m
  pub built : (order : List Driver) × IsOrder d order × IsBuilt d order m

-- each of the first k of these jobs makes no more than 2 ^ 27 variables
abbrev pub FitUpTo : TaskNetOf → List (Option ℕ) → Span → List JobName → ℕ → Type 0
FitUpTo t bits span names k = (i : ℕ) (job : JobName) → i < k → slice_get names i ≡ Some job → job_size t.net bits job span ≤ 2 ^ 27

-- one of these jobs has too many variables; each before it is encoded
pub record IsRefusedAmong (d : DesignOf) (m : ModelOf) (span : Span) (names : List JobName) (job : JobName) : Type 0 where
  pub place : ℕ
  pub at : slice_get names place ≡ Some job
  pub refused : IsRefusedJob d m job span
  pub before : (i : ℕ) (earlier : JobName) → i < place → slice_get names i ≡ Some earlier → (e : EncodedOf) × IsEncodedJob d m earlier span e
