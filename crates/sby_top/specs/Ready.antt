-- A task that is ready for its race.
use Rattle.std.specs.Prelude.{◌≡◌, ℕ, List, Option, Some, length, map}
use Rattle.judge.specs.Problem.{AskedOf}
use Rattle.race_core.specs.Room.{HasRoom}
use Rattle.jobs_pool.specs.Places.{PoolOf}
use Rattle.sby_edge.specs.Child.{BayOf, YardOf}
use Rattle.sby_edge.specs.Files.{Store}
use Rattle.sby_terms.specs.declared.engine.Engine.{Engine}
use Rattle.sby_top.specs.Judged.{AreStreamReports, racing_of}
use Rattle.sby_top.specs.Served.{ArePut, IsServed, files_in, jobs_in}
use Rattle.sby_top.specs.Task.{Lanes, Service, Streams, TaskOf}
use Rattle.sby_top.specs.World.{FilesOf}
use Rattle.sby_top.specs.declared.serve.Came.{Came}
use Rattle.sby_top.specs.declared.serve.Came.TheVariants.{Judged as CameJudged, Raced as CameRaced}
use Rattle.sby_top.specs.declared.serve.Raced.{Raced}
use Rattle.sby_top.specs.declared.serve.Ready.{Ready}
use Rattle.sby_top.specs.declared.serve.Serving.{Serving}
use Rattle.sby_top.specs.declared.serve.Serving.TheVariants.{Judged, Lanes as LanesReady}
use Rattle.task_race.specs.Bays.{BackOf, counts_at}
use Rattle.task_race.specs.Prepared.{AreNew, IsPrepared, bays_in}
use Rattle.task_race.specs.Ran.{HasJobFiles, HaveRaced}

-- what a bay tells, by what its trait tells
abbrev pub back_by : {L : Type 0} → (L → Option BayOf) → (L → ℕ) → (L → ℕ) → (L → ℕ) → L → BackOf
back_by told starts reads holds bay = record { told = told bay; counts = counts_at (starts bay) (reads bay) (holds bay) }

-- how many reports a task will have, by what serves its jobs
abbrev pub report_count : Service → ℕ
report_count (Streams paths) = 1
report_count (Lanes engines) = length engines

-- its stored streams were judged, over this store; or its lanes are prepared, under the allowance of this pool, or none, in bays of a yard with
-- these scripts, as they are made
abbrev pub IsServing : {L : Type 0} → (L → BackOf) → TaskOf → AskedOf → ℕ → Option PoolOf → Option Store → Option YardOf → Serving L → Type 0
IsServing back task p number pool told scripts (Judged reports) = (paths : List (List ℕ)) × (task.service ≡ Streams paths) × AreStreamReports p told paths reports.items
IsServing back task p number pool told scripts (LanesReady prepared) =
    (engines : List Engine) × (task.service ≡ Lanes engines) × IsPrepared (racing_of task p number engines) pool prepared × AreNew scripts number (map back (bays_in prepared))

-- its design was accepted, its jobs' files stand in the store, what serves its jobs is ready, and there is room for what the reports decide
pub record IsReady {L : Type 0} (back : L → BackOf) (task : TaskOf) (number : ℕ) (pool : Option PoolOf) (told : Option Store) (scripts : Option YardOf) (ready : Ready L) : Type 0 where
  pub served : (before : Option Store) × IsServed before task ready.problem
  pub files : (engines : List Engine) (store : Store) → task.service ≡ Lanes engines → told ≡ Some store → HasJobFiles (racing_of task ready.problem number engines) store
  pub serving : IsServing back task ready.problem number pool told scripts ready.serving
  pub room : HasRoom (length (jobs_in ready.problem)) (report_count task.service) ready.room

-- what its jobs left: its stored streams were judged, over this store; or its lanes were raced, in bays of a yard with these scripts
abbrev pub HasCome : {L : Type 0} → (L → BackOf) → TaskOf → AskedOf → ℕ → Option PoolOf → (ℕ → Type 0) → Option Store → Option YardOf → Came L → Type 0
HasCome back task p number pool may_read told scripts (CameJudged reports) = (paths : List (List ℕ)) × (task.service ≡ Streams paths) × AreStreamReports p told paths reports.items
HasCome back task p number pool may_read told scripts (CameRaced raced) =
    (engines : List Engine) × (task.service ≡ Lanes engines) × HaveRaced (racing_of task p number engines) pool may_read scripts raced.ran.start raced.ran.reports.items (map back raced.bays.items)

-- its design was accepted, its jobs left this, and there is room for what the reports decide
pub record WasRaced {L : Type 0} (back : L → BackOf) (task : TaskOf) (number : ℕ) (pool : Option PoolOf) (may_read : ℕ → Type 0) (told : Option Store) (scripts : Option YardOf) (raced : Raced L) : Type 0 where
  pub served : (before : Option Store) × IsServed before task raced.problem
  pub came : HasCome back task raced.problem number pool may_read told scripts raced.came
  pub room : HasRoom (length (jobs_in raced.problem)) (report_count task.service) raced.room

-- A task was prepared, from these files to those: its design was accepted, as this problem, and its jobs' files were put.
pub record WasPrepared (task : TaskOf) (got put : FilesOf) (p : AskedOf) : Type 0 where
  pub served : IsServed got.told task p
  pub put_is : ArePut p task.request.name (files_in task.service p) got.told put.told
  pub faults : put.faults ≡ got.faults
  pub blamed : put.blamed ≡ got.blamed
