-- A task as it is run.
use Rattle.std.specs.Prelude.{ℕ, Bool, List, [], map, string_bytes}
use Rattle.judge.specs.Jobs.{IsSpanFor}
use Rattle.sby_lines.specs.Told.{Request}
use Rattle.sby_terms.specs.Problem.{ProblemOf}
use Rattle.sby_terms.specs.declared.engine.Engine.{Engine}
use Rattle.sby_top.specs.declared.task.DesignAt.{DesignAt as KeptDesign}
use Rattle.sby_top.specs.declared.task.DesignAt.TheVariants.{Stored as KeptStored, Given as KeptGiven}
use Rattle.sby_top.specs.declared.task.Service.{Service as KeptService}
use Rattle.sby_top.specs.declared.task.Service.TheVariants.{Streams as KeptStreams, Lanes as KeptLanes}
use Rattle.sby_top.specs.declared.task.Task.{Task}

-- where a design's text is: at this path of the file store, or given whole
pub data DesignAt : Type 0 where
  Stored : List ℕ → DesignAt
  Given : List ℕ → DesignAt

-- what serves the jobs of a task: stored streams, by their paths, one for each of the first jobs; or engines, one lane for each
pub data Service : Type 0 where
  Streams : List (List ℕ) → Service
  Lanes : List Engine → Service

-- what is asked and printed of it; its design; whether every lane goes on when a job is settled; and what serves its jobs
pub record TaskOf : Type 0 where
  pub request : Request
  pub design : DesignAt
  pub wait : Bool
  pub service : Service

-- the problem that is asked about a text
abbrev pub problem_of : TaskOf → List ℕ → ProblemOf
problem_of task text = record { text = text; mode = task.request.mode; span = task.request.span }

-- the paths of its stored streams
abbrev pub streams_in : Service → List (List ℕ)
streams_in (Streams paths) = paths
streams_in (Lanes engines) = []

-- its cycles are such that its mode may have them
abbrev pub IsAskable : TaskOf → Type 0
IsAskable task = IsSpanFor task.request.mode task.request.span

-- what is kept of a design's place, of what serves the jobs, and of a task
abbrev pub design_seen : KeptDesign → DesignAt
design_seen (KeptStored path) = Stored (string_bytes path)
design_seen (KeptGiven bytes) = Given bytes.items

abbrev pub service_seen : KeptService → Service
service_seen (KeptStreams paths) = Streams (map string_bytes paths.items)
service_seen (KeptLanes engines) = Lanes engines.items

abbrev pub task_seen : Task → TaskOf
task_seen t = record {
  request = record { name = string_bytes t.name; mode = t.mode; span = t.span; expect = t.expect; limit = t.limit };
  design = design_seen t.design;
  wait = t.wait;
  service = service_seen t.service;
}
