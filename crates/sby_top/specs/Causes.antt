-- How a task ended, and why.
use Rattle.std.specs.Prelude.{◌≡◌, ◌⊎◌, ℕ, ◌<◌, List, [], length, take, string_bytes, Option, Some, None, slice_get}
use Rattle.sby_edge.specs.Files.{Store}
use Rattle.judge.specs.Finding.{FindingOf}
use Rattle.judge.specs.Problem.{AskedOf}
use Rattle.judge.specs.declared.problem.ProblemFault.TheVariants.{Read as ReadFault, Design as DesignFault, TooMany as TooManyFault}
use Rattle.race_core.specs.Report.{ReportOf}
use Rattle.sby_lines.specs.declared.early.Early.{Early}
use Rattle.sby_lines.specs.declared.early.Early.TheVariants.{File, Sby, Task, Read, Design, TooMany, Streams, Memory}
use Rattle.sby_top.specs.Judged.{AreReports, IsGotFor}
use Rattle.sby_top.specs.Served.{ArePut, IsAccepted, IsRefused, IsServed, JobFile, file_path, files_in, jobs_in, slices_in}
use Rattle.sby_top.specs.Task.{Stored, TaskOf, streams_in}
use Rattle.task_race.specs.Bays.{NoneStarted, YardAt}
use Rattle.sby_top.specs.Traces.{ArePutTraces, AreTraces, TraceOf}
use Rattle.sby_top.specs.World.{FilesOf, IsFailedAt, Moments, RaceOf, files_of}

-- A file call of a task failed at this path: of its design, before anything was put; of a file of its jobs, when those before it were put;
-- or of a stream, when all were.
abbrev pub IsFailedPath : TaskOf → Option Store → Option Store → List ℕ → Type 0
IsFailedPath task before after path =
    ((task.design ≡ Stored path) × (after ≡ before))
    ⊎ ((p : AskedOf) × (i : ℕ) × (file : JobFile) × IsServed before task p × (slice_get (files_in task.service p) i ≡ Some file)
    × (path ≡ file_path task.request.name (slices_in p) file) × ArePut p task.request.name (take i (files_in task.service p)) before after)
    ⊎ ((p : AskedOf) × IsServed before task p × IsGotFor p (streams_in task.service) path × ArePut p task.request.name (files_in task.service p) before after)

-- what was put when memory ran out: nothing; or the first files of the jobs of the accepted design, in their order
abbrev pub IsHalted : TaskOf → Option Store → Option Store → Type 0
IsHalted task before after =
    (after ≡ before) ⊎ ((p : AskedOf) × (i : ℕ) × IsServed before task p × ArePut p task.request.name (take i (files_in task.service p)) before after)

-- Why a task ended before its lanes: a file call failed, at this path, which is one of the task's; the design's text is refused so; or it
-- is accepted, with more streams than jobs. These two put no file, and no call failed. A task that is run has a sound task file.
-- Memory may run out at any time, which leaves the files as they were put so far.
abbrev pub HasReason : TaskOf → FilesOf → FilesOf → Early → Type 0
HasReason task before after (File path) =
    IsFailedAt (record before { told = after.told }) after (string_bytes path) × IsFailedPath task before.told after.told (string_bytes path)
HasReason task before after (Sby fault) = ⊥
HasReason task before after (Task fault) = ⊥
HasReason task before after (Read f) = IsRefused before.told task (ReadFault f) × (after ≡ before)
HasReason task before after (Design f) = IsRefused before.told task (DesignFault f) × (after ≡ before)
HasReason task before after (TooMany job) = IsRefused before.told task (TooManyFault job) × (after ≡ before)
HasReason task before after Streams =
    ((p : AskedOf) × IsAccepted before.told task p × (length (jobs_in p) < length (streams_in task.service))) × (after ≡ before)
HasReason task before after Memory = IsHalted task before.told after.told

-- The design was accepted, with this text; the files of all jobs were put, and the reports are those of the jobs.
pub record IsDone (may_read : ℕ → Type 0) (task : TaskOf) (before after : FilesOf) (race : RaceOf) (text : List ℕ) (reports : List (ReportOf FindingOf)) : Type 0 where
  pub problem : AskedOf
  pub served : IsServed before.told task problem
  pub text_is : text ≡ problem.problem.text
  pub put : ArePut problem task.request.name (files_in task.service problem) before.told after.told
  pub reports_are : AreReports task.service may_read task problem after.told race reports
  pub faults : after.faults ≡ before.faults
  pub blamed : after.blamed ≡ before.blamed

-- The trace files of the first runs shown were put after all this, of all of them where nothing stopped that.
pub record AreTracesPut (task : TaskOf) (before after : FilesOf) (problem : AskedOf) (reports : List (ReportOf FindingOf)) (unput : List ℕ) (stopped : Type 0) : Type 0 where
  pub traces : List TraceOf
  pub count : ℕ
  pub are_traces : (count ≡ 0) ⊎ AreTraces task.request (record { design = problem.design; reports = reports; start = None }) traces
  pub put : ArePutTraces task.request problem.design (take count traces) before after unput
  pub whole : stopped ⊎ (AreTraces task.request (record { design = problem.design; reports = reports; start = None }) traces × (take count traces ≡ traces))

-- the yard is as it was; or memory ran out, and none of the task's children was started
abbrev pub IsSpared : YardAt → YardAt → Early → Type 0
IsSpared before after early = (after ≡ before) ⊎ ((early ≡ Memory) × NoneStarted before after)

-- no lane has a reading at which it started, and no child was started
abbrev pub AreSpared : RaceOf → Early → Type 0
AreSpared race early = (race.start ≡ None) × IsSpared race.before race.after early

-- A task ended before its lanes, for a reason, and no trace file was put; or it was done, and its trace files were put, all of them unless
-- this was stopped: because memory ran out, or by a failed call of the sink.
abbrev pub IsOutcome : (ℕ → Type 0) → TaskOf → Moments → RaceOf → Option Early → List ℕ → List (ReportOf FindingOf) → List ℕ → Type 0 → Type 0
IsOutcome may_read task m race (Some early) text reports unput stopped =
    (text ≡ []) × (reports ≡ []) × (unput ≡ []) × HasReason task m.got m.put early × (files_of m.after ≡ files_of m.before) × AreSpared race early
IsOutcome may_read task m race None text reports unput stopped =
    (done : IsDone may_read task m.got m.put race text reports) × AreTracesPut task (files_of m.before) (files_of m.after) done.problem reports unput stopped
