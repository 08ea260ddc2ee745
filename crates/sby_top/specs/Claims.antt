-- What is claimed of a call, task by task.
use Rattle.std.specs.Prelude.{◌≡◌, ◌⊎◌, ℕ, ◌+◌, ◌<◌, ◌≤◌, ◌^◌, List, [], ◌∷◌, ◌++◌, length, slice_get, string_bytes, take, Option, Some, None, Contains}
use Rattle.std.specs.List.{concat}
use Rattle.sby_edge.specs.Cause.{CountsOf, Rose}
use Rattle.sby_edge.specs.Child.{YardOf, up_to}
use Rattle.sby_edge.specs.Files.{Store}
use Rattle.sby_edge.specs.Script.{ScriptOf}
use Rattle.cert_judge.specs.Fate.{Found as FoundFate}
use Rattle.task_race.specs.Serving.{IsServing, evidence_at}
use Rattle.sby_terms.specs.Status.{HasStatus}
use Rattle.sby_terms.specs.declared.names.Mode.{Mode}
use Rattle.sby_terms.specs.declared.names.Verdict.{Verdict}
use Rattle.design_meaning.specs.Claims.{NoReach, ReachRun, Shows}
use Rattle.design_meaning.specs.Meaning.{asserts, covers}
use Rattle.design_meaning.specs.Runs.{CycleOf, IsRunOf, valuations}
use Rattle.design_core.specs.Shape.{CellOf, DesignOf}
use Rattle.judge.specs.Finding.{FindingOf}
use Rattle.judge.specs.Problem.{AskedOf, IsJobFile}
use Rattle.race_core.specs.Asking.{name_at}
use Rattle.race_core.specs.Carrying.{Carries}
use Rattle.race_core.specs.Collect.{SettledIn}
use Rattle.race_core.specs.Consistent.{end_at}
use Rattle.race_core.specs.Report.{ReportOf}
use Rattle.race_core.specs.declared.end.JobEnd.{JobEnd}
use Rattle.race_core.specs.declared.end.JobEnd.TheVariants.{Found, Unknown as UnknownEnd, NotServed, Bad, ReadFailed, StartFailed, HoldFailed, Skipped, CalledOff, Stopped, Memory as MemoryEnd}
use Rattle.design_check.specs.Faults.{IsFlat}
use Rattle.design_reader.specs.Grammar.{Reads}
use Rattle.sby_terms.specs.declared.engine.Engine.{Engine}
use Rattle.sby_terms.specs.declared.names.Answer.{Answer}
use Rattle.sby_terms.specs.declared.names.Answer.TheVariants.{Sat, Unsat}
use Rattle.sby_terms.specs.declared.names.JobName.{JobName}
use Rattle.sby_terms.specs.declared.names.JobName.TheVariants.{Base, Cover as CoverJob}
use Rattle.sby_terms.specs.declared.names.Status.{Status}
use Rattle.sby_terms.specs.declared.names.Status.TheVariants.{Pass, Fail, Unknown, Error, Timeout, Memory}
use Rattle.sby_lines.specs.Broken.{IsFirstBroken, last_of}
use Rattle.sby_lines.specs.Lines.{done_line}
use Rattle.sby_lines.specs.Reached.{unreached_line}
use Rattle.sby_lines.specs.Telling.{GrownBySome, grown}
use Rattle.sby_lines.specs.Told.{AreAnswers, job_of}
use Rattle.sby_lines.specs.declared.early.Early.{Early}
use Rattle.sby_words.specs.Requests.{AskNames, Request as Asked}
use Rattle.sby_words.specs.Words.{IsAsked}
use Rattle.sby_top.specs.Causes.{AreTracesPut, HasReason, IsDone, IsOutcome}
use Rattle.sby_top.specs.Headline.{AreLines, ArePrintedOf, Exit, IsCarried, IsReachPrinted, WasStopped}
use Rattle.sby_top.specs.Run.{Follows, SameSink, TurnRan, TurnsRan, allowance_of, rc_of_exit}
use Rattle.sby_top.specs.Served.{ArePut, IsServed, IsTextOf, files_in, most_stream}
use Rattle.sby_top.specs.Judged.{IsUnserved, racing_of}
use Rattle.sby_top.specs.Task.{Lanes, Service, Streams, TaskOf}
use Rattle.sby_top.specs.Asked.{HasTurns}
use Rattle.sby_top.specs.Turns.{Refused, Run, Turn}
use Rattle.sby_top.specs.Traces.{TraceOf, with_trace}
use Rattle.sby_top.specs.World.{Moments, RaceOf, World, files_of, race_of}
use Rattle.task_race.specs.Bays.{AreCountsOf, YardAt}
use Rattle.task_race.specs.Ends.{HasEndCause, IsCalledOffBy, IsFateOf, IsLimitShown, IsSkippedBy, script_of}
use Rattle.sby_top.specs.declared.outcome.Done.{Done}
use Rattle.sby_top.specs.declared.outcome.TaskEnd.{TaskEnd}

-- A turn of a call: the words ask it; the turns ran, in their order, from the call's begin to its end; and this is the one at a place,
-- with its moments and its end. The place is its number, from 0 on.
pub record TurnHasRun (may_read : ℕ → Type 0) (before after : World) (words : List (List ℕ)) (done : Done) (m : Moments) (turn : Turn) (end : TaskEnd) : Type 0 where
  pub asked : Asked
  pub asks : IsAsked words (Some asked)
  pub begun : World
  pub same_sink : SameSink before begun
  pub turns : List Turn
  pub has_turns : HasTurns (files_of before) (files_of begun) asked turns
  pub ms : List Moments
  pub total : Exit
  pub had : TurnsRan may_read 0 0 turns ms done.ends.items total
  pub order : Follows (allowance_of asked) may_read turns ms begun after total
  pub rc : done.rc ≡ rc_of_exit total
  pub place : ℕ
  pub turn_is : slice_get turns place ≡ Some turn
  pub moments_are : slice_get ms place ≡ Some m
  pub end_is : slice_get done.ends.items place ≡ Some end
  pub exit : Exit
  pub ran : TurnRan may_read place m turn end exit

-- a task of a call, and its end
abbrev pub IsTaskOf : (ℕ → Type 0) → World → World → List (List ℕ) → Done → Moments → TaskOf → TaskEnd → Type 0
IsTaskOf may_read before after words done m task end = TurnHasRun may_read before after words done m (Run task) end

-- trace files of these runs were put, one after the other
abbrev pub AreStored : TaskOf → DesignOf → List TraceOf → Option Store → Option Store → Type 0
AreStored task d [] before after = after ≡ before
AreStored task d (t ∷ traces) before after = AreStored task d traces (with_trace task.request d t before) after

-- files were put: the first of those of the problem's jobs, as the task was prepared; then trace files, with its lines
pub record AreFilesPut (task : TaskOf) (m : Moments) : Type 0 where
  pub problem : AskedOf
  pub count : ℕ
  pub traces : List TraceOf
  pub served : IsServed m.got.told task problem
  pub put : ArePut problem task.request.name (take count (files_in task.service problem)) m.got.told m.put.told
  pub traced : AreStored task problem.design traces m.before.told m.after.told

-- No file changed; or every file that did is a job's or a trace file.
abbrev pub IsStored : TaskOf → Moments → Type 0
IsStored task m = ((m.put.told ≡ m.got.told) × (m.after.told ≡ m.before.told)) ⊎ AreFilesPut task m

-- The task was judged when the store was this one: the jobs' files were put, and trace files were put with its lines.
pub record IsJudgedAt (may_read : ℕ → Type 0) (number : ℕ) (m : Moments) (task : TaskOf) (end : TaskEnd) (now : Store) : Type 0 where
  pub early : end.early ≡ None
  pub done : IsDone may_read task m.got m.put (race_of number m.pool m.before m.after end.start) end.text end.reports.items
  pub traced : AreTracesPut task (files_of m.before) (files_of m.after) done.problem end.reports.items end.unput.items (WasStopped m end)
  pub told : m.put.told ≡ Some now

-- the text that the end keeps, which is the design's as it was got when the task began, or as the task file has it, reads this flat design
pub record IsDesignOf (m : Moments) (task : TaskOf) (end : TaskEnd) (d : DesignOf) : Type 0 where
  pub got : IsTextOf m.got.told task.design end.text
  pub reads : Reads end.text d
  pub flat : IsFlat d

-- a run of more than k and at most n cycles, all assumed, whose last breaks this assertion, the first in the file of those that it breaks
pub record BreaksIn (d : DesignOf) (k n : ℕ) (run : List CycleOf) (assertion : ℕ) (cell : CellOf) : Type 0 where
  pub rows : IsRunOf d run
  pub behind : k < length run
  pub within : length run ≤ n
  pub shows : Shows d (length run) (valuations d run) assertion
  pub first : IsFirstBroken d (last_of d run) assertion
  pub is_cell : slice_get (asserts d) assertion ≡ Some cell

-- the sink grew by these lines; or a call of it failed, and it grew by a part of their bytes
abbrev pub HasPrinted : Moments → List (List ℕ) → Type 0
HasPrinted m lines =
    ((m.after.sink_faults ≡ m.before.sink_faults) × (m.after.taken ≡ grown m.before.taken (concat lines)))
    ⊎ (Rose m.before.sink_faults m.after.sink_faults × GrownBySome m.before.taken m.after.taken (concat lines))

-- The sink tells what it has taken, no call of it failed while the lines were printed, and what it took then ends with the last line of a task
-- of this name, with this status and this number.
pub record HasTold (m : Moments) (name : List ℕ) (status : Status) (rc : ℕ) : Type 0 where
  pub still : Rose m.before.sink_faults m.after.sink_faults → ⊥
  pub earlier : List ℕ
  pub front : List ℕ
  pub begun : m.before.taken ≡ Some earlier
  pub taken : m.after.taken ≡ Some (earlier ++ (front ++ done_line name status rc))
  pub small : rc < 2 ^ 64

-- each turn is a task that was run, and its end has a status that the task expects
abbrev pub AreExpected : List Turn → List TaskEnd → Type 0
AreExpected [] [] = Unit {0}
AreExpected [] (end ∷ ends) = ⊥
AreExpected (Run task ∷ turns) [] = ⊥
AreExpected (Refused name early ∷ turns) [] = ⊥
AreExpected (Run task ∷ turns) (end ∷ ends) = (string_bytes end.name ≡ task.request.name) × Contains task.request.expect end.status × AreExpected turns ends
AreExpected (Refused name early ∷ turns) (end ∷ ends) = ⊥

-- The words ask for the names of a file's tasks; or all the turns that they ask ran, and ended as their tasks expect.
abbrev pub AllExpected : World → List (List ℕ) → Done → Type 0
AllExpected before words done =
    (asked : Asked) × IsAsked words (Some asked)
    × (((file : List ℕ) × (asked ≡ AskNames file))
    ⊎ ((begun : World) × SameSink before begun × ((turns : List Turn) × HasTurns (files_of before) (files_of begun) asked turns × AreExpected turns done.ends.items)))

-- the design and its run that breaks an assertion, and that they were printed
pub record IsShownBreak (m : Moments) (task : TaskOf) (end : TaskEnd) : Type 0 where
  pub design : DesignOf
  pub is_design : IsDesignOf m task end design
  pub run : List CycleOf
  pub assertion : ℕ
  pub cell : CellOf
  pub slice : ℕ
  pub carried : IsCarried end.reports.items (Base slice) run
  pub breaks : BreaksIn design task.request.span.skip task.request.span.depth run assertion cell
  pub lines : List (List ℕ)
  pub are_lines : AreLines task end lines
  pub shown : ArePrintedOf design task.request.name cell run lines
  pub printed : HasPrinted m lines

-- a run of at most n cycles, all assumed, whose last reaches cover statement k, and the statement's cell
pub record ReachesIn (d : DesignOf) (n : ℕ) (run : List CycleOf) (k : ℕ) (cell : CellOf) : Type 0 where
  pub rows : IsRunOf d run
  pub within : length run ≤ n
  pub reaches : ReachRun d (length run) (valuations d run) k
  pub is_cell : slice_get (covers d) k ≡ Some cell

-- a run that reaches cover statement k, which the report carries and these lines show
pub record IsReachIn (task : TaskOf) (end : TaskEnd) (d : DesignOf) (lines : List (List ℕ)) (k : ℕ) : Type 0 where
  pub run : List CycleOf
  pub cell : CellOf
  pub carried : IsCarried end.reports.items (CoverJob k) run
  pub reaches : ReachesIn d task.request.span.depth run k cell
  pub shown : IsReachPrinted d task.request.name cell run lines

-- the design, for each of its cover statements a run that reaches it, and that these were printed
pub record AreShownReaches (m : Moments) (task : TaskOf) (end : TaskEnd) : Type 0 where
  pub design : DesignOf
  pub is_design : IsDesignOf m task end design
  pub lines : List (List ℕ)
  pub are_lines : AreLines task end lines
  pub each : (k : ℕ) → k < length (covers design) → IsReachIn task end design lines k
  pub printed : HasPrinted m lines

-- the design and a cover statement that no run of at most this many cycles reaches, and that it was named
pub record IsNamedUnreached (m : Moments) (task : TaskOf) (end : TaskEnd) : Type 0 where
  pub design : DesignOf
  pub is_design : IsDesignOf m task end design
  pub statement : ℕ
  pub cell : CellOf
  pub is_cell : slice_get (covers design) statement ≡ Some cell
  pub unreached : NoReach design task.request.span.depth statement
  pub lines : List (List ℕ)
  pub are_lines : AreLines task end lines
  pub named : Contains lines (unreached_line task.request.name cell)
  pub printed : HasPrinted m lines

-- the status of a task of bmc with one job, by the job's answer
abbrev pub status_for : Answer → Status
status_for Sat = Fail
status_for Unsat = Pass

-- an end that is left of a job where the status is UNKNOWN: its engine doesn't know, or doesn't serve it
abbrev pub IsLeftEnd : JobEnd FindingOf → Type 0
IsLeftEnd UnknownEnd = Unit {0}
IsLeftEnd NotServed = Unit {0}
IsLeftEnd (Found f) = ⊥
IsLeftEnd (Bad number at) = ⊥
IsLeftEnd ReadFailed = ⊥
IsLeftEnd StartFailed = ⊥
IsLeftEnd HoldFailed = ⊥
IsLeftEnd (Skipped f) = ⊥
IsLeftEnd (CalledOff f) = ⊥
IsLeftEnd (Stopped reading) = ⊥
IsLeftEnd MemoryEnd = ⊥

-- a stream that is no certificate, or a call that failed
abbrev pub IsFaultyEnd : JobEnd FindingOf → Type 0
IsFaultyEnd (Bad number at) = Unit {0}
IsFaultyEnd ReadFailed = Unit {0}
IsFaultyEnd StartFailed = Unit {0}
IsFaultyEnd HoldFailed = Unit {0}
IsFaultyEnd (Found f) = ⊥
IsFaultyEnd UnknownEnd = ⊥
IsFaultyEnd NotServed = ⊥
IsFaultyEnd (Skipped f) = ⊥
IsFaultyEnd (CalledOff f) = ⊥
IsFaultyEnd (Stopped reading) = ⊥
IsFaultyEnd MemoryEnd = ⊥

-- a job that isn't served has no stored stream, or one of a kind that isn't judged for it
abbrev pub IsStoredUnserved : JobName → Option (List ℕ) → Type 0
IsStoredUnserved job None = Unit {0}
IsStoredUnserved job (Some path) = IsUnserved path job

-- A job with a stored stream at this path, or none, has no child: no call for one failed, and nothing stopped it.
abbrev pub IsStoredEnd : JobName → Option (List ℕ) → JobEnd FindingOf → Type 0
IsStoredEnd job path (Found f) = Unit {0}
IsStoredEnd job path UnknownEnd = Unit {0}
IsStoredEnd job path NotServed = IsStoredUnserved job path
IsStoredEnd job path (Bad number at) = Unit {0}
IsStoredEnd job path MemoryEnd = Unit {0}
IsStoredEnd job path ReadFailed = ⊥
IsStoredEnd job path StartFailed = ⊥
IsStoredEnd job path HoldFailed = ⊥
IsStoredEnd job path (Skipped f) = ⊥
IsStoredEnd job path (CalledOff f) = ⊥
IsStoredEnd job path (Stopped reading) = ⊥

-- The task was judged: its files were put, and these are its reports; each call that failed was for a trace file.
pub record WasJudged (may_read : ℕ → Type 0) (number : ℕ) (m : Moments) (task : TaskOf) (end : TaskEnd) : Type 0 where
  pub early : end.early ≡ None
  pub outcome : IsOutcome may_read task m (race_of number m.pool m.before m.after end.start) None end.text end.reports.items end.unput.items (WasStopped m end)
  pub design : DesignOf
  pub reads : Reads end.text design
  pub answers : List (Option Answer)
  pub are_answers : AreAnswers task.request (record { design = design; reports = end.reports.items; start = end.start }) answers

-- the end of an unsettled job, by its place, in the report of a lane
pub record IsUnsettledEnd (reports : List (ReportOf FindingOf)) (answers : List (Option Answer)) (lane place : ℕ) (e : JobEnd FindingOf) : Type 0 where
  pub report : ReportOf FindingOf
  pub at : slice_get reports lane ≡ Some report
  pub unsettled : slice_get answers place ≡ Some None
  pub end_is : end_at report place ≡ e

-- Why the job at a place ended so, by what serves the jobs: by its stored stream; or, in a lane, by its child, a call for it that failed,
-- or the limit. A call that failed is one of the lane's own bay.
abbrev pub IsCausedEnd : Service → (ℕ → Type 0) → TaskOf → AskedOf → RaceOf → ℕ → ℕ → JobEnd FindingOf → Type 0
IsCausedEnd (Streams paths) may_read task p race lane place e = IsStoredEnd (name_at task.request.mode place) (slice_get paths place) e
IsCausedEnd (Lanes engines) may_read task p race lane place e =
    (counts : CountsOf) × AreCountsOf race.task lane race.before race.after counts
    × HasEndCause (racing_of task p race.task engines) may_read race.before.scripts counts race.start lane (name_at task.request.mode place) e

-- an end of an unsettled job of a task that was judged, with its cause
pub record IsOpenEnd (may_read : ℕ → Type 0) (number : ℕ) (m : Moments) (task : TaskOf) (end : TaskEnd) (p : AskedOf) (answers : List (Option Answer)) (e : JobEnd FindingOf) : Type 0 where
  pub lane : ℕ
  pub place : ℕ
  pub is_end : IsUnsettledEnd end.reports.items answers lane place e
  pub caused : IsCausedEnd task.service may_read task p (race_of number m.pool m.before m.after end.start) lane place e

-- The event that a status other than PASS and FAIL names: UNKNOWN that each end of an unsettled job is Unknown or NotServed, with the cause
-- of each; TIMEOUT a reading that shows the limit; ERROR a fault before the lanes, or the faulty end of an unsettled job, with its cause. Of
-- MEMORY nothing is said.
abbrev pub IsEvent : (ℕ → Type 0) → ℕ → Moments → TaskOf → TaskEnd → Status → Type 0
IsEvent may_read number m task end Pass = Unit {0}
IsEvent may_read number m task end Fail = Unit {0}
IsEvent may_read number m task end Memory = Unit {0}
IsEvent may_read number m task end Timeout =
    (judged : WasJudged may_read number m task end) × ((t : ℕ) × IsOpenEnd may_read number m task end judged.outcome.0.problem judged.answers (Stopped t))
IsEvent may_read number m task end Unknown =
    (judged : WasJudged may_read number m task end) × ((lane place : ℕ) (e : JobEnd FindingOf) → IsUnsettledEnd end.reports.items judged.answers lane place e
    → IsLeftEnd e × IsCausedEnd task.service may_read task judged.outcome.0.problem (race_of number m.pool m.before m.after end.start) lane place e)
IsEvent may_read number m task end Error =
    ((early : Early) × (end.early ≡ Some early) × HasReason task m.got m.put early)
    ⊎ ((judged : WasJudged may_read number m task end)
    × ((e : JobEnd FindingOf) × IsOpenEnd may_read number m task end judged.outcome.0.problem judged.answers e × IsFaultyEnd e))

-- a call for a child failed: a start, a read, or one for a running child
abbrev pub HasFailedCall : CountsOf → CountsOf → Type 0
HasFailedCall before now = Rose before.starts now.starts ⊎ Rose before.reads now.reads ⊎ Rose before.holds now.holds

-- a call for a child of this lane of the task failed
abbrev pub HasOwnFailedCall : (number lane : ℕ) → YardAt → YardAt → Type 0
HasOwnFailedCall number lane before now = (counts : CountsOf) × AreCountsOf number lane before now counts × ((0 < counts.starts) ⊎ (0 < counts.reads) ⊎ (0 < counts.holds))

-- the lane's own report has this end of the job at this place
abbrev pub HasOwnEnd : TaskEnd → (lane place : ℕ) → (JobEnd FindingOf → Type 0) → Type 0
HasOwnEnd end lane place P = (r : ReportOf FindingOf) × (slice_get end.reports.items lane ≡ Some r) × P (end_at r place)

-- an end by a reading that shows the limit
abbrev pub IsStoppedEnd : (ℕ → Type 0) → TaskOf → TaskEnd → JobEnd FindingOf → Type 0
IsStoppedEnd may_read task end e = (t : ℕ) × (e ≡ Stopped t) × IsLimitShown may_read task.request.limit end.start t

-- A lane's job, whose child's certificate is valid for this answer, is settled with it: a report carries a finding for it with this answer.
-- Or a call for a child of the lane itself failed; or the lane's own end of the job says that it was stopped by a reading that shows the
-- limit, that memory ran out, or that it was skipped or called off by a finding of the task that decides it.
abbrev pub IsJobInTime : (ℕ → Type 0) → (number lane place : ℕ) → Moments → TaskOf → AskedOf → List Engine → TaskEnd → Answer → Type 0
IsJobInTime may_read number lane place m task p engines end answer =
    ((f : FindingOf) × SettledIn job_of end.reports.items (name_at task.request.mode place) f × (f.answer ≡ answer))
    ⊎ HasOwnFailedCall number lane m.before.yard m.after.yard
    ⊎ HasOwnEnd end lane place (IsStoppedEnd may_read task end)
    ⊎ HasOwnEnd end lane place (λ e. e ≡ MemoryEnd)
    ⊎ HasOwnEnd end lane place (λ e. (f : FindingOf) × Carries e f
    × (IsSkippedBy (racing_of task p number engines) (name_at task.request.mode place) f ⊎ IsCalledOffBy (racing_of task p number engines) (name_at task.request.mode place) f))

-- The status is this one; or memory ran out; or it is TIMEOUT or ERROR, and a call for a child of the lane itself failed; or TIMEOUT, and
-- the lane's own end of its first job is by a reading that shows the limit.
abbrev pub IsInTime : (ℕ → Type 0) → (number lane : ℕ) → Moments → TaskOf → TaskEnd → Status → Type 0
IsInTime may_read number lane m task end status =
    (end.status ≡ status) ⊎ (end.status ≡ Memory)
    ⊎ (((end.status ≡ Timeout) ⊎ (end.status ≡ Error)) × HasOwnFailedCall number lane m.before.yard m.after.yard)
    ⊎ ((end.status ≡ Timeout) × HasOwnEnd end lane 0 (IsStoppedEnd may_read task end))

-- The job at this place has valid evidence for this answer in this lane: the lane's engine serves the job; its child's script for the job is
-- told, and has no gate; and what the child leaves is a certificate of the job's file, or a witness that plays.
pub record IsValidChild (told : Option YardOf) (number lane : ℕ) (engines : List Engine) (p : AskedOf) (mode : Mode) (place : ℕ) (answer : Answer) : Type 0 where
  pub serving : IsServing (slice_get engines lane) (name_at mode place)
  pub script : ScriptOf
  pub script_is : script_of told number lane (name_at mode place) ≡ Some script
  pub ungated : script.gate ≡ None
  pub file : List ℕ
  pub is_file : IsJobFile p (name_at mode place) file
  pub valid : IsFateOf p (name_at mode place) (evidence_at (slice_get engines lane)) file (up_to script.stalls script.bytes) (take (most_stream + 1) script.proof) (FoundFate answer)

-- each of these answers has valid evidence in the lane that is named for its job
abbrev pub AreValidChildren : Option YardOf → ℕ → (ℕ → ℕ) → List Engine → AskedOf → Mode → List (Option Answer) → Type 0
AreValidChildren told number lane_of engines p mode answers =
    (place : ℕ) (answer : Answer) → slice_get answers place ≡ Some (Some answer) → IsValidChild told number (lane_of place) engines p mode place answer

-- The status is that of the verdict; or memory ran out; or it is TIMEOUT or ERROR, and a call for a child of one of these answers' own lanes
-- failed; or TIMEOUT, and such a lane's own end of its job is by a reading that shows the limit.
abbrev pub IsVerdictInTime : (ℕ → Type 0) → ℕ → (ℕ → ℕ) → List (Option Answer) → Moments → TaskOf → TaskEnd → Verdict → Type 0
IsVerdictInTime may_read number lane_of answers m task end verdict =
    HasStatus (Some verdict) [] end.status ⊎ (end.status ≡ Memory)
    ⊎ ((place : ℕ) × (answer : Answer) × (slice_get answers place ≡ Some (Some answer))
    × ((((end.status ≡ Timeout) ⊎ (end.status ≡ Error)) × HasOwnFailedCall number (lane_of place) m.before.yard m.after.yard)
    ⊎ ((end.status ≡ Timeout) × HasOwnEnd end (lane_of place) place (IsStoppedEnd may_read task end))))
