-- What the lanes of a task leave.
use Rattle.std.specs.Prelude.{◌≡◌, ℕ, Bool, List, Option, None, Some, IsSomeAnd, length, map, slice_get, unwrap_or}
use Rattle.jobs_pool.specs.Places.{PoolOf}
use Rattle.sby_edge.specs.Child.{BayOf, IsLogged, YardOf, new_bay}
use Rattle.sby_edge.specs.Files.{Store}
use Rattle.sby_terms.specs.Path.{job_path}
use Rattle.sby_terms.specs.Problem.{ProblemOf}
use Rattle.sby_terms.specs.Span.{slices_of}
use Rattle.sby_terms.specs.declared.engine.Engine.{Engine}
use Rattle.sby_terms.specs.declared.engine.Engine.TheVariants as engine
use Rattle.sby_terms.specs.declared.names.Answer.{Answer}
use Rattle.sby_terms.specs.declared.names.JobName.{JobName}
use Rattle.judge.specs.Finding.{FindingOf, IsTrueFinding}
use Rattle.judge.specs.Jobs.{jobs_of}
use Rattle.judge.specs.Problem.{AskedOf, IsJobFile, IsProblem}
use Rattle.judge.specs.Witness.{IsLinesFile}
use Rattle.race_cells.specs.Notes.{NoteOf}
use Rattle.race_core.specs.Asking.{name_at, terms_of}
use Rattle.race_core.specs.Collect.{AreTrue, HasFinding, HasWon}
use Rattle.race_core.specs.Consistent.{Consistent}
use Rattle.race_core.specs.Parts.{Terms}
use Rattle.race_core.specs.Report.{ReportOf}
use Rattle.lane_run.specs.Asked.{IsFor, terms_at}
use Rattle.lane_run.specs.Done.{LaneFaults, LaneStops}
use Rattle.lane_run.specs.Raced.{LanesDone}
use Rattle.lane_run.specs.Started.{LaneStarts}
use Rattle.lane_run.specs.declared.task.Limit.{Limit}
use Rattle.task_race.specs.Fates.{Ends, Proves, Stands, most_bytes, most_output}
use Rattle.task_race.specs.Serving.{IsServed, evidence_at, file_of}
use Rattle.task_race.specs.Words.{btor_path, words_at}
use Rattle.task_race.specs.declared.evidence.Evidence.{Evidence}
use Rattle.task_race.specs.Bays.{BackOf, CameBack, YardAt, counts_in, left_all, none_failed}
use Rattle.task_race.specs.declared.racing.Racing.{Racing}

-- What is raced: the jobs of a problem, by one lane for each engine line; the work folder, in which the jobs' files lie; the number of the
-- task among those of the call; whether every lane goes on when a job is settled; and the limit, in milliseconds.
pub record RacingOf : Type 0 where
  pub problem : AskedOf
  pub engines : List Engine
  pub folder : List ℕ
  pub task : ℕ
  pub wait : Bool
  pub limit : Option ℕ

-- what is kept of it
abbrev pub racing_seen : Racing → RacingOf
racing_seen r = record { problem = r.problem.now; engines = r.engines.now; folder = r.folder.now; task = r.task; wait = r.wait; limit = r.limit }

abbrev pub problem_in : FindingOf → ProblemOf
problem_in f = f.problem

abbrev pub job_in : FindingOf → JobName
job_in f = f.job

abbrev pub answer_in : FindingOf → Answer
answer_in f = f.answer

-- how many jobs the task has
abbrev pub job_count : RacingOf → ℕ
job_count racing = length (jobs_of racing.problem.problem racing.problem.design)

-- the name of the job at a place
abbrev pub name_in : RacingOf → ℕ → JobName
name_in racing place = name_at racing.problem.problem.mode place

-- what lanes that started at this reading run under; without a limit none is read
abbrev pub limit_from : RacingOf → Option ℕ → Limit
limit_from racing start = record { start = unwrap_or start 0; millis = racing.limit; wait = racing.wait }

-- what the job at a place is asked under
abbrev pub terms_in : RacingOf → Option ℕ → ℕ → Terms FindingOf
terms_in racing start place = terms_of job_in answer_in (terms_at racing.problem.problem.mode (limit_from racing start) place)

-- the lane's engine serves the job at a place
abbrev pub Serves : RacingOf → ℕ → ℕ → Type 0
Serves racing lane place = IsServed racing.engines racing.problem lane (name_in racing place)

-- a reading is there exactly where there is a limit, and the clock may give it
abbrev pub IsStart : (ℕ → Type 0) → Option ℕ → Option ℕ → Type 0
IsStart may_read None None = Unit {0}
IsStart may_read None (Some t) = ⊥
IsStart may_read (Some limit) None = ⊥
IsStart may_read (Some limit) (Some t) = may_read t

-- the report of each lane, in their order, is such
abbrev pub EachLane : List (ReportOf FindingOf) → (ℕ → ReportOf FindingOf → Type 0) → Type 0
EachLane reports P = (lane : ℕ) (r : ReportOf FindingOf) → slice_get reports lane ≡ Some r → P lane r

-- The reports are one of each engine line, in their order; their events give their ends, what they carry is of the problem, and they agree.
abbrev pub AreConsistent : RacingOf → Option ℕ → List (ReportOf FindingOf) → Type 0
AreConsistent racing start reports = Consistent (IsFor problem_in job_in racing.problem.problem racing.problem.problem.mode)
    (Serves racing) (terms_in racing start) (length racing.engines) (job_count racing) reports

-- Each lane has done all its jobs: their ends follow from their events, what it looked at or won these notes know, and its readings are ones
-- that the clock may give.
abbrev pub AreDone : RacingOf → (ℕ → Type 0) → Option ℕ → List (NoteOf FindingOf) → List (ReportOf FindingOf) → Type 0
AreDone racing may_read start notes reports = LanesDone (IsFor problem_in job_in racing.problem.problem racing.problem.problem.mode)
    (Serves racing) (terms_in racing start) may_read (job_count racing) notes reports

-- a lane that says that it won a job's cell carries a finding for the job
abbrev pub WinnersFind : RacingOf → List (ReportOf FindingOf) → Type 0
WinnersFind racing reports = EachLane reports (λ lane r. (place : ℕ) → HasWon r place → HasFinding job_in (name_in racing place) r)

-- where the evidence of a lane's children comes from
abbrev pub evidence_in : RacingOf → ℕ → Evidence
evidence_in racing lane = evidence_at (slice_get racing.engines lane)

-- the words of a lane's child for a job, for the files of the work folder
abbrev pub words_in : RacingOf → ℕ → JobName → List (List ℕ)
words_in racing lane job = words_at (slice_get racing.engines lane) racing.folder lane (slices_of racing.problem.problem.span) job

-- The starts of a lane's jobs, with the words of its engine line, under the allowance of this pool, or none, over the scripts that are told
-- for it, up to what its bay tells then.
abbrev pub AreStarts : RacingOf → Option PoolOf → Option BayOf → Option BayOf → ℕ → ReportOf FindingOf → Type 0
AreStarts racing pool before now lane r =
    LaneStarts pool (words_in racing lane) (file_of racing.problem)
    (λ job. Stands racing.problem job (evidence_in racing lane)) (λ job. Ends racing.problem job (evidence_in racing lane)) (λ job. Proves racing.problem job (evidence_in racing lane))
    most_bytes (most_output (evidence_in racing lane)) racing.problem.problem.mode before now (job_count racing) r

-- the report of each lane, with what its bay left, is such
abbrev pub EachBack : List (ReportOf FindingOf) → List BackOf → (ℕ → ReportOf FindingOf → BackOf → Type 0) → Type 0
EachBack reports backs P = (lane : ℕ) (r : ReportOf FindingOf) (back : BackOf) → slice_get reports lane ≡ Some r → slice_get backs lane ≡ Some back → P lane r back

-- What lanes of a problem that started at this reading report, under the allowance of this pool, or none, over their yard at two moments. What they carry is true; their bays came back, one for
-- each engine line, and the yard counts their failed calls and tells what they left; an end that tells of a failed call comes only where
-- the lane's own bay counted one; what each started is what its bay left; and they stop by readings alone which the clock may give.
pub record LanesRan (racing : RacingOf) (pool : Option PoolOf) (may_read : ℕ → Type 0) (before now : YardAt) (start : Option ℕ) (reports : List (ReportOf FindingOf)) : Type 0 where
  pub is_problem : IsProblem racing.problem
  pub start_is : IsStart may_read racing.limit start
  pub consistent : AreConsistent racing start reports
  pub done : (notes : List (NoteOf FindingOf)) × AreDone racing may_read start notes reports
  pub are_true : AreTrue problem_in IsTrueFinding racing.problem.problem reports
  pub backs : List BackOf
  pub backs_are : length backs ≡ length racing.engines
  pub came_back : CameBack (map counts_in backs) before.counts now.counts
  pub logged : IsLogged (left_all backs) before.started now.started
  pub faults : EachBack reports backs (λ lane r back. LaneFaults none_failed back.counts (job_count racing) r)
  pub starts : EachBack reports backs (λ lane r back. AreStarts racing pool (new_bay before.scripts racing.task lane) back.told lane r)
  pub stopped : EachLane reports (λ lane r. LaneStops may_read (limit_from racing start) (job_count racing) r)

-- the store has the file of each job, its formula or of Inv the pair of two cycles, at its path in the work folder
abbrev pub HasFormulas : RacingOf → Store → Type 0
HasFormulas racing store = (job : JobName) (file : List ℕ) → IsJobFile racing.problem job file → store (job_path racing.folder (slices_of racing.problem.problem.span) job) ≡ Some file

-- and the model in BTOR2 of each job that a lane serves by witnesses
abbrev pub HasModels : RacingOf → Store → Type 0
HasModels racing store =
    (lane : ℕ) (words : List (List ℕ)) (job : JobName) → slice_get racing.engines lane ≡ Some (engine.Btor words) → IsServed racing.engines racing.problem lane job
    → IsSomeAnd (store (btor_path racing.folder (slices_of racing.problem.problem.span) job)) (IsLinesFile racing.problem job)

abbrev pub HasJobFiles : RacingOf → Store → Type 0
HasJobFiles racing store = HasFormulas racing store × HasModels racing store

-- Lanes were raced under this allowance, or none, in bays of these scripts, and left these reports and these bays: wherever the bays come back to their yard, that is what
-- lanes leave that ran.
abbrev pub HaveRaced : RacingOf → Option PoolOf → (ℕ → Type 0) → Option YardOf → Option ℕ → List (ReportOf FindingOf) → List BackOf → Type 0
HaveRaced racing pool may_read scripts start reports backs =
    (before now : YardAt) → before.scripts ≡ scripts → CameBack (map counts_in backs) before.counts now.counts → IsLogged (left_all backs) before.started now.started
    → LanesRan racing pool may_read before now start reports
