-- What is promised of a task that was run.
use Rattle.std.specs.Prelude.{◌≡◌, ◌≢◌, ◌⊎◌, ℕ, ◌<◌, ◌≤◌, List, [], ◌∷◌, ◌++◌, length, map, slice_get, string_bytes, Option, Some, None, Contains}
use Rattle.std.specs.List.{concat}
use Rattle.sby_edge.specs.Cause.{Rose}
use Rattle.sby_edge.specs.Sink.{AreAll}
use Rattle.sby_edge.specs.Files.{Store}
use Rattle.cert_judge.specs.Fate.{Fate, Found, Unknown, Bad}
use Rattle.cert_judge.specs.declared.stream.Kind.{Kind}
use Rattle.judge.specs.Fates.{IsFate}
use Rattle.judge.specs.Finding.{FindingOf}
use Rattle.judge.specs.Problem.{AskedOf, IsJobFile}
use Rattle.judge.specs.declared.problem.ProblemFault.{ProblemFault}
use Rattle.judge.specs.declared.problem.ProblemFault.TheVariants.{Read as ReadFault, Design as DesignFault, TooMany as TooManyFault}
use Rattle.race_core.specs.Collect.{SettledIn}
use Rattle.race_core.specs.Report.{ReportOf}
use Rattle.race_core.specs.Told.{Decided}
use Rattle.design_meaning.specs.Claims.{NeverBreak, NoBreak, NoReach, ReachRun, Shows}
use Rattle.design_check.specs.Faults.{IsFlat}
use Rattle.design_meaning.specs.Meaning.{asserts, covers}
use Rattle.design_meaning.specs.Runs.{CycleOf, IsRunOf, shown_of, valuations}
use Rattle.design_core.specs.Shape.{CellOf, DesignOf}
use Rattle.design_reader.specs.Grammar.{Reads}
use Rattle.sby_terms.specs.Code.{HasCode}
use Rattle.sby_terms.specs.Decide.{Decides}
use Rattle.sby_terms.specs.Status.{HasStatus}
use Rattle.sby_terms.specs.declared.names.Answer.{Answer}
use Rattle.sby_terms.specs.declared.names.Event.{Event}
use Rattle.sby_terms.specs.declared.names.Event.TheVariants.{Quiet, Fault}
use Rattle.sby_terms.specs.declared.names.JobName.{JobName}
use Rattle.sby_terms.specs.declared.names.JobName.TheVariants.{Base, Cover as CoverJob}
use Rattle.sby_terms.specs.declared.names.Mode.{Mode}
use Rattle.sby_terms.specs.declared.names.Mode.TheVariants.{Bmc, Prove, ProveInv, Cover}
use Rattle.sby_terms.specs.declared.names.Status.{Status}
use Rattle.sby_terms.specs.declared.names.Status.TheVariants.{Pass, Fail, Error, Memory}
use Rattle.sby_terms.specs.declared.names.Verdict.{Verdict}
use Rattle.sby_words.specs.Kinds.{IsKindNamed}
use Rattle.sby_lines.specs.Broken.{AreLinesOf, IsFirstBroken, broken_line, last_of}
use Rattle.sby_lines.specs.Reached.{reached_line, unreached_line}
use Rattle.sby_lines.specs.Lines.{HasLines, IsStatus, done_line}
use Rattle.sby_lines.specs.Telling.{GrownByFirst, GrownBySome, grown}
use Rattle.sby_lines.specs.Told.{job_of}
use Rattle.sby_lines.specs.declared.early.Early.{Early}
use Rattle.sby_lines.specs.declared.early.Early.TheVariants.{Read, Design, TooMany, Streams}
use Rattle.sby_top.specs.Causes.{IsOutcome}
use Rattle.sby_top.specs.Judged.{IsUnserved}
use Rattle.sby_top.specs.Served.{ArePut, IsAccepted, IsRefused, IsServed, IsTextOf, files_in, jobs_in, most_stream}
use Rattle.sby_top.specs.Task.{Lanes, Service, Streams as StoredStreams, TaskOf, streams_in}
use Rattle.sby_top.specs.World.{Moments, race_of}
use Rattle.task_race.specs.Bays.{AreLater}
use Rattle.sby_top.specs.declared.outcome.TaskEnd.{TaskEnd}
use Rattle.design_trace.specs.Trace.{trace}

-- a task that ended so has these lines
abbrev pub AreLines : TaskOf → TaskEnd → List (List ℕ) → Type 0
AreLines task end lines = HasLines task.request end.text end.early end.reports.items end.start end.unput.items lines

-- a report carries this run, in a finding for this job
abbrev pub IsCarried : List (ReportOf FindingOf) → JobName → List CycleOf → Type 0
IsCarried reports job run = (f : FindingOf) × SettledIn job_of reports job f × (f.run ≡ Some run)

-- somewhere in the lines stands that of the broken assertion, then the trace of the run
abbrev pub ArePrintedOf : DesignOf → List ℕ → CellOf → List CycleOf → List (List ℕ) → Type 0
ArePrintedOf d name cell run lines =
    (front : List (List ℕ)) × (traced : List (List ℕ)) × (back : List (List ℕ)) × AreLinesOf (trace d (shown_of run)) traced
    × (lines ≡ front ++ broken_line name cell run ∷ (traced ++ back))

-- The run by which a task fails: a report carries it; it has more cycles than are skipped and at most the depth's, all assumed; its last
-- breaks an assertion, the first in the file of those that it breaks; and whatever lines the task has, they name that assertion and show
-- that run.
pub record IsShown (task : TaskOf) (end : TaskEnd) (d : DesignOf) : Type 0 where
  pub run : List CycleOf
  pub assertion : ℕ
  pub cell : CellOf
  pub slice : ℕ
  pub carried : IsCarried end.reports.items (Base slice) run
  pub rows : IsRunOf d run
  pub behind : task.request.span.skip < length run
  pub within : length run ≤ task.request.span.depth
  pub shows : Shows d (length run) (valuations d run) assertion
  pub first : IsFirstBroken d (last_of d run) assertion
  pub is_cell : slice_get (asserts d) assertion ≡ Some cell
  pub printed : (lines : List (List ℕ)) → AreLines task end lines → ArePrintedOf d task.request.name cell run lines

-- somewhere in the lines stands that of the reached statement, then the trace of the run
abbrev pub IsReachPrinted : DesignOf → List ℕ → CellOf → List CycleOf → List (List ℕ) → Type 0
IsReachPrinted d name cell run lines =
    (front : List (List ℕ)) × (traced : List (List ℕ)) × (back : List (List ℕ)) × AreLinesOf (trace d (shown_of run)) traced
    × (lines ≡ front ++ reached_line name cell run ∷ (traced ++ back))

-- The run that reaches cover statement k: a report carries it; it has at most the depth's cycles, all assumed, of which the last reaches
-- the statement; and whatever lines the task has, they name that statement and show that run.
pub record IsReachShown (task : TaskOf) (end : TaskEnd) (d : DesignOf) (k : ℕ) : Type 0 where
  pub run : List CycleOf
  pub cell : CellOf
  pub carried : IsCarried end.reports.items (CoverJob k) run
  pub rows : IsRunOf d run
  pub within : length run ≤ task.request.span.depth
  pub reaches : ReachRun d (length run) (valuations d run) k
  pub is_cell : slice_get (covers d) k ≡ Some cell
  pub printed : (lines : List (List ℕ)) → AreLines task end lines → IsReachPrinted d task.request.name cell run lines

-- cover statement k, which no run of at most the depth's cycles reaches; and whatever lines the task has, one says so
pub record IsUnreachedShown (task : TaskOf) (end : TaskEnd) (d : DesignOf) (k : ℕ) : Type 0 where
  pub cell : CellOf
  pub is_cell : slice_get (covers d) k ≡ Some cell
  pub none : NoReach d task.request.span.depth k
  pub printed : (lines : List (List ℕ)) → AreLines task end lines → Contains lines (unreached_line task.request.name cell)

-- What PASS says of a design: in bmc no run of more cycles than are skipped and at most the depth's breaks an assertion in its last, in
-- prove no run of any length does, and in cover each statement has a run that reaches it, which is shown.
abbrev pub PassClaim : Mode → TaskOf → TaskEnd → DesignOf → Type 0
PassClaim Bmc task end d = NoBreak d task.request.span.skip task.request.span.depth
PassClaim Prove task end d = NeverBreak d
PassClaim ProveInv task end d = NeverBreak d
PassClaim Cover task end d = (k : ℕ) → k < length (covers d) → IsReachShown task end d k

-- what FAIL says: in bmc and prove it shows a run that breaks an assertion, in cover it names a statement that isn't reached
abbrev pub FailClaim : Mode → TaskOf → TaskEnd → DesignOf → Type 0
FailClaim Bmc task end d = IsShown task end d
FailClaim Prove task end d = IsShown task end d
FailClaim ProveInv task end d = IsShown task end d
FailClaim Cover task end d = (k : ℕ) × (k < length (covers d)) × IsUnreachedShown task end d k

-- the design's text, as it was got, reads a flat design of which the claim is true
abbrev pub IsTrueOf : Option Store → TaskOf → List ℕ → (DesignOf → Type 0) → Type 0
IsTrueOf told task text claim = IsTextOf told task.design text × ((d : DesignOf) × Reads text d × IsFlat d × claim d)

-- its status is the one that its early fault or its reports give, by the design that its text reads
abbrev pub HasOwnStatus : TaskOf → TaskEnd → Type 0
HasOwnStatus task end =
    (d : DesignOf) × (end.early ≡ None → Reads end.text d)
    × IsStatus task.request end.early (record { design = d; reports = end.reports.items; start = end.start }) end.status

-- memory ran out, or a call of the sink failed
abbrev pub WasStopped : Moments → TaskEnd → Type 0
WasStopped m end = (end.status ≡ Memory) ⊎ Rose m.before.sink_faults m.after.sink_faults

-- each status names its event
pub record NamesEvent (may_read : ℕ → Type 0) (number : ℕ) (m : Moments) (task : TaskOf) (end : TaskEnd) : Type 0 where
  pub name : string_bytes end.name ≡ task.request.name
  pub status : HasOwnStatus task end ⊎ (end.status ≡ Memory)
  pub cause : IsOutcome may_read task m (race_of number m.pool m.before m.after end.start) end.early end.text end.reports.items end.unput.items (WasStopped m end)

-- how a run of tasks exits: with a number, or cut short by a failed call of the sink
pub data Exit : Type 0 where
  Code : ℕ → Exit
  Cut : Exit

-- these lines end with this one
abbrev pub EndIn : List ℕ → List (List ℕ) → Type 0
EndIn line lines = (body : List (List ℕ)) × (lines ≡ body ++ line ∷ [])

-- The lines of a task of this name were printed, where no call of the sink failed: whole, the last one with the status and its number; or up
-- to a line for which, or for a trace file, memory ran out. Where a call failed, the lines were cut short, and the sink took nothing after that call.
abbrev pub IsPrinted : List ℕ → Option (List ℕ) → Option (List ℕ) → ℕ → ℕ → Option ℕ → (List (List ℕ) → Type 0) → List Status → Type 0 → Status → Exit → Type 0
IsPrinted name before now faults_before faults ended are_lines expect own status (Code rc) =
    (faults ≡ faults_before) × HasCode expect status rc
    × ((lines : List (List ℕ)) × are_lines lines × ((own × (now ≡ grown before (concat lines)) × EndIn (done_line name status rc) lines) ⊎ ((status ≡ Memory) × GrownByFirst before now lines)))
IsPrinted name before now faults_before faults ended are_lines expect own status Cut =
    Rose faults_before faults × AreAll ended now × ((lines : List (List ℕ)) × are_lines lines × own × GrownBySome before now (concat lines))

-- the answer and the event of a job by its stream's fate; without a stream it has neither
abbrev pub fate_answer : Option Fate → Option Answer
fate_answer (Some (Found answer)) = Some answer
fate_answer (Some Unknown) = None
fate_answer (Some (Bad kind at)) = None
fate_answer None = None

abbrev pub fate_event : Option Fate → Event
fate_event (Some (Found answer)) = Quiet
fate_event (Some Unknown) = Quiet
fate_event (Some (Bad kind at)) = Fault
fate_event None = Quiet

-- the fates of the stored streams, each of the kind that its path names, as evidence for the jobs with their files, in the order of the jobs;
-- none for a job without a stream, nor for a stream that is left out
abbrev pub AreFates : AskedOf → Store → List JobName → List (List ℕ) → List (Option Fate) → Type 0
AreFates p store [] paths fates = fates ≡ []
AreFates p store (job ∷ jobs) [] (None ∷ fates) = AreFates p store jobs [] fates
AreFates p store (job ∷ jobs) (path ∷ paths) (None ∷ fates) = AreFates p store jobs paths fates
AreFates p store (job ∷ jobs) (path ∷ paths) (Some fate ∷ fates) =
    ((kind : Kind) × (stream : List ℕ) × (file : List ℕ) × IsKindNamed path kind × (store path ≡ Some stream) × IsJobFile p job file
    × IsFate p job kind file stream most_stream fate)
    × AreFates p store jobs paths fates
AreFates p store (job ∷ jobs) [] (Some fate ∷ fates) = ⊥
AreFates p store (job ∷ jobs) paths [] = ⊥

-- each stream has its fate, but those whose kind isn't judged for their job
abbrev pub AreWhole : List JobName → List (List ℕ) → List (Option Fate) → Type 0
AreWhole [] paths fates = Unit {0}
AreWhole (job ∷ jobs) [] fates = Unit {0}
AreWhole (job ∷ jobs) (path ∷ paths) [] = Unit {0}
AreWhole (job ∷ jobs) (path ∷ paths) (None ∷ fates) = IsUnserved path job × AreWhole jobs paths fates
AreWhole (job ∷ jobs) (path ∷ paths) (Some fate ∷ fates) = AreWhole jobs paths fates

-- the answers decide a verdict
abbrev pub IsDecided : Mode → List (Option Answer) → Type 0
IsDecided mode answers = (verdict : Verdict) × Decides mode answers verdict

-- the status that answers and events give
abbrev pub IsFateStatus : Mode → List (Option Fate) → Status → Type 0
IsFateStatus mode fates status = (verdict : Option Verdict) × Decided mode (map fate_answer fates) verdict × HasStatus verdict (map fate_event fates) status

abbrev pub early_of : ProblemFault → Early
early_of (ReadFault f) = Read f
early_of (DesignFault f) = Design f
early_of (TooManyFault job) = TooMany job

-- the status of the fates, for the files that were put; none is left out, unless the others decide
abbrev pub IsJudgedStatus : Store → TaskOf → Option Early → Status → Type 0
IsJudgedStatus before task early status =
    (p : AskedOf) × (fates : List (Option Fate)) × (put : Store) × IsServed (Some before) task p
    × ArePut p task.request.name (files_in task.service p) (Some before) (Some put) × AreFates p put (jobs_in p) (streams_in task.service) fates
    × (AreWhole (jobs_in p) (streams_in task.service) fates ⊎ IsDecided task.request.mode (map fate_answer fates))
    × (early ≡ None) × IsFateStatus task.request.mode fates status

-- the status of a task that reaches its lanes, by what serves its jobs: of stored streams that of their fates
abbrev pub IsServedStatus : Service → Store → TaskOf → Option Early → Status → Type 0
IsServedStatus (StoredStreams paths) before task early status = IsJudgedStatus before task early status
IsServedStatus (Lanes engines) before task early status = (p : AskedOf) × IsServed (Some before) task p × (early ≡ None)

-- What the stores give, without any lane: the refusal of the design's text; that of too many streams; or that it is served, and the
-- status of the streams' fates.
abbrev pub IsPlainStatus : Store → TaskOf → Option Early → Status → Type 0
IsPlainStatus before task early status =
    ((fault : ProblemFault) × IsRefused (Some before) task fault × (early ≡ Some (early_of fault)) × (status ≡ Error))
    ⊎ ((p : AskedOf) × IsAccepted (Some before) task p × (length (jobs_in p) < length (streams_in task.service)) × (early ≡ Some Streams) × (status ≡ Error))
    ⊎ IsServedStatus task.service before task early status

-- no call of the files or the sink failed, and memory did not run out
pub record IsSmooth (m : Moments) (status : Status) : Type 0 where
  pub prepared : Rose m.got.faults m.put.faults → ⊥
  pub files : Rose m.before.file_faults m.after.file_faults → ⊥
  pub sink : Rose m.before.sink_faults m.after.sink_faults → ⊥
  pub memory : status ≢ Memory

-- completeness: over a store that tells, where no call of the files or the sink failed and memory did not run out, the status is the plain one
abbrev pub IsComplete : Moments → TaskOf → TaskEnd → Type 0
IsComplete m task end =
    (store : Store) → m.got.told ≡ Some store → IsSmooth m end.status → IsPlainStatus store task end.early end.status

-- the counts of faults didn't fall, and the yard tells the same scripts
pub record IsLater (m : Moments) : Type 0 where
  pub prepared : m.got.faults ≤ m.put.faults
  pub files : m.before.file_faults ≤ m.after.file_faults
  pub sink : m.before.sink_faults ≤ m.after.sink_faults
  pub children : AreLater m.before.yard.counts m.after.yard.counts
  pub scripts : m.after.yard.scripts ≡ m.before.yard.scripts

-- A task, which has this number in its call, was run, at these moments. Other tasks may have moments between these.
pub record TaskRan (may_read : ℕ → Type 0) (number : ℕ) (m : Moments) (task : TaskOf) (end : TaskEnd) (exit : Exit) : Type 0 where
  pub pass : end.status ≡ Pass → IsTrueOf m.got.told task end.text (PassClaim task.request.mode task end)
  pub fail : end.status ≡ Fail → IsTrueOf m.got.told task end.text (FailClaim task.request.mode task end)
  pub named : NamesEvent may_read number m task end
  pub printed : IsPrinted task.request.name m.before.taken m.after.taken m.before.sink_faults m.after.sink_faults m.after.ended (AreLines task end) task.request.expect (HasOwnStatus task end) end.status exit
  pub complete : IsComplete m task end
  pub later : IsLater m
