-- How the jobs of a task end.
use Rattle.std.specs.Prelude.{◌≡◌, ◌⊎◌, ℕ, Bool, List, [], ◌∷◌, length, replicate, slice_get, Option, Some, None, MatchOption}
use Rattle.sby_edge.specs.Files.{Store}
use Rattle.cert_judge.specs.Fate.{Found as FoundFate, Unknown as UnknownFate, Bad as BadFate}
use Rattle.judge.specs.Fates.{IsFate, IsStreamsRun, Serves}
use Rattle.judge.specs.Finding.{FindingOf, IsTrueFinding}
use Rattle.cert_judge.specs.Numbers.{number_of}
use Rattle.judge.specs.Problem.{AskedOf, IsJobFile}
use Rattle.cert_judge.specs.declared.stream.CertKind.{CertKind}
use Rattle.cert_judge.specs.declared.stream.Kind.{Kind}
use Rattle.race_core.specs.Report.{ReportOf, no_events}
use Rattle.race_core.specs.declared.end.JobEnd.{JobEnd}
use Rattle.race_core.specs.declared.end.JobEnd.TheVariants.{Found, Unknown, NotServed, Bad, ReadFailed, StartFailed, HoldFailed, Skipped, CalledOff, Stopped, Memory}
use Rattle.design_meaning.specs.Runs.{CycleOf}
use Rattle.sby_terms.specs.declared.names.Answer.TheVariants.{Sat}
use Rattle.sby_terms.specs.declared.names.JobName.{JobName}
use Rattle.sby_terms.specs.declared.names.JobName.TheVariants.{Step}
use Rattle.sby_terms.specs.declared.engine.Engine.{Engine}
use Rattle.sby_words.specs.Kinds.{IsKindNamed}
use Rattle.sby_top.specs.Served.{jobs_in, most_stream}
use Rattle.sby_top.specs.Task.{Lanes, Service, Streams, TaskOf}
use Rattle.sby_top.specs.World.{RaceOf}
use Rattle.task_race.specs.Ran.{LanesRan, RacingOf}

-- what a path has meets this, where the store tells, and a path that has nothing doesn't; where it doesn't tell, some bytes do
abbrev pub Has : Option Store → List ℕ → (List ℕ → Type 0) → Type 0
Has None path P = (bytes : List ℕ) × P bytes
Has (Some store) path P = MatchOption (store path) ⊥ P

-- the end of a job is the fate of its stream, which is of this kind, as evidence for the job, whose file this is; or memory ran out
abbrev pub IsFateEnd : AskedOf → JobName → Kind → List ℕ → List ℕ → JobEnd FindingOf → Type 0
IsFateEnd p job kind file stream (Found f) = IsFate p job kind file stream most_stream (FoundFate f.answer)
IsFateEnd p job kind file stream Unknown = IsFate p job kind file stream most_stream UnknownFate
IsFateEnd p job kind file stream (Bad number at) = (why : CertKind) × (number ≡ number_of why) × IsFate p job kind file stream most_stream (BadFate why at)
IsFateEnd p job kind file stream Memory = Unit {0}
IsFateEnd p job kind file stream NotServed = ⊥
IsFateEnd p job kind file stream ReadFailed = ⊥
IsFateEnd p job kind file stream StartFailed = ⊥
IsFateEnd p job kind file stream HoldFailed = ⊥
IsFateEnd p job kind file stream (Skipped f) = ⊥
IsFateEnd p job kind file stream (CalledOff f) = ⊥
IsFateEnd p job kind file stream (Stopped reading) = ⊥

-- a finding is true, and is of this problem and job
pub record IsFindingOf (p : AskedOf) (job : JobName) (f : FindingOf) : Type 0 where
  pub problem : f.problem ≡ p.problem
  pub of_job : f.job ≡ job
  pub is_true : IsTrueFinding f

abbrev pub IsEndOf : AskedOf → JobName → JobEnd FindingOf → Type 0
IsEndOf p job (Found f) = IsFindingOf p job f
IsEndOf p job Unknown = Unit {0}
IsEndOf p job (Bad number at) = Unit {0}
IsEndOf p job Memory = Unit {0}
IsEndOf p job NotServed = ⊥
IsEndOf p job ReadFailed = ⊥
IsEndOf p job StartFailed = ⊥
IsEndOf p job HoldFailed = ⊥
IsEndOf p job (Skipped f) = ⊥
IsEndOf p job (CalledOff f) = ⊥
IsEndOf p job (Stopped reading) = ⊥

-- a finding that Base or Cover can be solved has the run that its stream names
abbrev pub HasStreamsRun : AskedOf → JobName → Kind → List ℕ → FindingOf → Type 0
HasStreamsRun p job kind stream f =
    f.answer ≡ Sat → (job ≡ Step → ⊥) → (ended : Bool) × (run : List CycleOf) × (f.run ≡ Some run) × IsStreamsRun p job kind ended stream most_stream run

abbrev pub EndsWithRun : AskedOf → JobName → Kind → List ℕ → JobEnd FindingOf → Type 0
EndsWithRun p job kind stream (Found f) = HasStreamsRun p job kind stream f
EndsWithRun p job kind stream Unknown = Unit {0}
EndsWithRun p job kind stream NotServed = Unit {0}
EndsWithRun p job kind stream (Bad number at) = Unit {0}
EndsWithRun p job kind stream ReadFailed = Unit {0}
EndsWithRun p job kind stream StartFailed = Unit {0}
EndsWithRun p job kind stream HoldFailed = Unit {0}
EndsWithRun p job kind stream (Skipped f) = Unit {0}
EndsWithRun p job kind stream (CalledOff f) = Unit {0}
EndsWithRun p job kind stream (Stopped reading) = Unit {0}
EndsWithRun p job kind stream Memory = Unit {0}

-- the stream at this path was judged, by the kind that the path names
pub record IsJudged (p : AskedOf) (told : Option Store) (job : JobName) (path : List ℕ) (end : JobEnd FindingOf) : Type 0 where
  pub kind : Kind
  pub named : IsKindNamed path kind
  pub serves : Serves kind job
  pub of : IsEndOf p job end
  pub fate : (file : List ℕ) → IsJobFile p job file → Has told path (λ stream. IsFateEnd p job kind file stream end)
  pub run : Has told path (λ stream. EndsWithRun p job kind stream end)

-- the stream at this path is of a kind that isn't judged for the job
abbrev pub IsUnserved : List ℕ → JobName → Type 0
IsUnserved path job = (kind : Kind) × IsKindNamed path kind × (Serves kind job → ⊥)

-- the stream at this path is got: its kind is judged for the job at its place
abbrev pub IsGotFor : AskedOf → List (List ℕ) → List ℕ → Type 0
IsGotFor p paths path = (place : ℕ) × (job : JobName) × (kind : Kind) × (slice_get (jobs_in p) place ≡ Some job) × (slice_get paths place ≡ Some path) × IsKindNamed path kind × Serves kind job

-- the end of a job by the stream at this path: the stream was judged; or its kind isn't judged for the job, which isn't served
abbrev pub IsStreamEnd : AskedOf → Option Store → JobName → List ℕ → JobEnd FindingOf → Type 0
IsStreamEnd p told job path end = IsJudged p told job path end ⊎ (IsUnserved path job × (end ≡ NotServed))

-- each job has an end, in the order of the jobs: by its stream, or it has none and isn't served
abbrev pub AreJudged : AskedOf → Option Store → List JobName → List (List ℕ) → List (JobEnd FindingOf) → Type 0
AreJudged p told [] paths ends = ends ≡ []
AreJudged p told (job ∷ jobs) paths [] = ⊥
AreJudged p told (job ∷ jobs) [] (end ∷ ends) = (end ≡ NotServed) × AreJudged p told jobs [] ends
AreJudged p told (job ∷ jobs) (path ∷ paths) (end ∷ ends) = IsStreamEnd p told job path end × AreJudged p told jobs paths ends

-- the report of stored streams: that of lane 0, without events
pub record IsReport (p : AskedOf) (told : Option Store) (paths : List (List ℕ)) (report : ReportOf FindingOf) : Type 0 where
  pub lane : report.lane ≡ 0
  pub jobs : report.jobs ≡ length (jobs_in p)
  pub events : report.events ≡ replicate (length (jobs_in p)) no_events
  pub ends : AreJudged p told (jobs_in p) paths report.ends

-- what is raced of a task: its problem's jobs, by these engines
abbrev pub racing_of : TaskOf → AskedOf → ℕ → List Engine → RacingOf
racing_of task p number engines = record { problem = p; engines = engines; folder = task.request.name; task = number; wait = task.wait; limit = task.request.limit }

-- the one report of stored streams
abbrev pub AreStreamReports : AskedOf → Option Store → List (List ℕ) → List (ReportOf FindingOf) → Type 0
AreStreamReports p told paths reports = (report : ReportOf FindingOf) × IsReport p told paths report × (reports ≡ report ∷ [])

-- The reports of a task, by what serves its jobs: that of its stored streams, for which no child was started; or those of the lanes of its engines.
abbrev pub AreReports : Service → (ℕ → Type 0) → TaskOf → AskedOf → Option Store → RaceOf → List (ReportOf FindingOf) → Type 0
AreReports (Streams paths) may_read task p told race reports = AreStreamReports p told paths reports × (race.start ≡ None) × (race.after ≡ race.before)
AreReports (Lanes engines) may_read task p told race reports =
    LanesRan (racing_of task p race.task engines) race.pool may_read race.before race.after race.start reports
