-- What the lines of a task depend on.
use Rattle.std.specs.Prelude.{◌≡◌, ℕ, ◌<◌, ◌^◌, List, length, Option, Some, None, slice_get, All, Contains}
use Rattle.judge.specs.Finding.{FindingOf, IsTrueFinding}
use Rattle.judge.specs.Jobs.{jobs_in}
use Rattle.race_core.specs.Asking.{name_at}
use Rattle.race_core.specs.Carrying.{Carries}
use Rattle.race_core.specs.Collect.{AreCollected, AreTrue, HasFinding, HasWon, IsLowest, IsPrinting, IsStatus as IsStatusOf, NoneBefore}
use Rattle.race_core.specs.Consistent.{end_at}
use Rattle.race_core.specs.Report.{ReportOf}
use Rattle.race_core.specs.Told.{Decided}
use Rattle.race_core.specs.declared.end.JobEnd.{JobEnd}
use Rattle.race_core.specs.declared.end.JobEnd.TheVariants.{Stopped}
use Rattle.design_core.specs.Shape.{DesignOf}
use Rattle.design_reader.specs.Grammar.{Reads}
use Rattle.sby_terms.specs.Problem.{ProblemOf}
use Rattle.sby_terms.specs.Span.{IsSpan}
use Rattle.sby_terms.specs.declared.names.Answer.{Answer}
use Rattle.sby_terms.specs.declared.names.Answer.TheVariants.{Sat}
use Rattle.sby_terms.specs.declared.names.JobName.{JobName}
use Rattle.sby_terms.specs.declared.names.Mode.{Mode}
use Rattle.sby_terms.specs.declared.names.Status.{Status}
use Rattle.sby_terms.specs.declared.span.Span.{Span}
use Rattle.sby_lines.specs.declared.collected.Collected.{Collected}
use Rattle.sby_lines.specs.declared.heading.Heading.{Heading}

-- A task as its lines show it: its name, which is the work folder's text; its mode and its cycles; the statuses that are expected; and
-- its timeout, in milliseconds.
pub record Request : Type 0 where
  pub name : List ℕ
  pub mode : Mode
  pub span : Span
  pub expect : List Status
  pub limit : Option ℕ

-- the result of a task whose design was accepted: the design, what its lanes report, and, under a time limit, the reading at which the
-- lanes started
pub record CameTo : Type 0 where
  pub design : DesignOf
  pub reports : List (ReportOf FindingOf)
  pub start : Option ℕ

abbrev pub job_of : FindingOf → JobName
job_of f = f.job

abbrev pub answer_of : FindingOf → Answer
answer_of f = f.answer

-- the jobs of the task
abbrev pub jobs_for : Request → DesignOf → List JobName
jobs_for request d = jobs_in request.mode request.span d

-- the answers of the findings that the reports carry, one entry for each job
abbrev pub AreAnswers : Request → CameTo → List (Option Answer) → Type 0
AreAnswers request c answers = AreCollected job_of answer_of request.mode (length (jobs_for request c.design)) c.reports answers

-- the status that the reports give
abbrev pub IsRaceStatus : Request → CameTo → Status → Type 0
IsRaceStatus request c status = (answers : List (Option Answer)) × AreAnswers request c answers × IsStatusOf job_of request.mode c.reports answers status

-- the first finding for the job that these ends carry
pub record IsFirstFinding (ends : List (JobEnd FindingOf)) (job : JobName) (f : FindingOf) : Type 0 where
  pub place : ℕ
  pub end : JobEnd FindingOf
  pub at : slice_get ends place ≡ Some end
  pub carried : Carries end f
  pub of_job : f.job ≡ job
  pub none_before : NoneBefore job_of job place ends

-- The finding that is printed for the job at a place: the first for it in the report of the lane that won its cell, the lowest of them;
-- where none won, in that of the lowest lane with a finding.
pub record IsPrintedFinding (mode : Mode) (reports : List (ReportOf FindingOf)) (place : ℕ) (f : FindingOf) : Type 0 where
  pub lane : ℕ
  pub report : ReportOf FindingOf
  pub printing : IsPrinting job_of reports place (name_at mode place) (Some lane)
  pub in_reports : Contains reports report
  pub of_lane : report.lane ≡ lane
  pub first : IsFirstFinding report.ends (name_at mode place) f

-- the place of the first answer Sat
abbrev pub IsFirstSat : List (Option Answer) → ℕ → Type 0
IsFirstSat answers place = (slice_get answers place ≡ Some (Some Sat)) × ((k : ℕ) → k < place → slice_get answers k ≡ Some (Some Sat) → ⊥)

-- the lane was stopped in an unsettled job
abbrev pub IsStoppedIn : List (Option Answer) → ReportOf FindingOf → ℕ → ℕ → Type 0
IsStoppedIn answers r place reading = (slice_get answers place ≡ Some None) × (end_at r place ≡ Stopped reading)

-- the reading that stopped the lowest lane which was stopped in an unsettled job, by the first such job of that lane
pub record IsStopReading (reports : List (ReportOf FindingOf)) (answers : List (Option Answer)) (reading : ℕ) : Type 0 where
  pub lane : ℕ
  pub report : ReportOf FindingOf
  pub place : ℕ
  pub lowest : IsLowest (λ r. (k : ℕ) × (t : ℕ) × IsStoppedIn answers r k t) reports (Some lane)
  pub in_reports : Contains reports report
  pub of_lane : report.lane ≡ lane
  pub stopped : IsStoppedIn answers report place reading
  pub first : (k t : ℕ) → k < place → IsStoppedIn answers report k t → ⊥

-- A lane whose report says that it won a job's cell carries a finding for the job.
abbrev pub WinnersHaveFindings : Mode → List (ReportOf FindingOf) → Type 0
WinnersHaveFindings mode reports = (r : ReportOf FindingOf) (k : ℕ) → Contains reports r → HasWon r k → HasFinding job_of (name_at mode k) r

-- the task whose lines begin so, with the statuses that are expected
abbrev pub asked_by : Heading → List Status → Request
asked_by h expect = record { name = h.name.now; mode = h.mode; span = h.span; expect = expect; limit = h.limit }

-- its result
abbrev pub came : DesignOf → List (ReportOf FindingOf) → Option ℕ → CameTo
came d reports start = record { design = d; reports = reports; start = start }

abbrev pub problem_in : FindingOf → ProblemOf
problem_in f = f.problem

-- each lane's report stands at its place
abbrev pub AreInPlace : List (ReportOf FindingOf) → Type 0
AreInPlace reports = (i : ℕ) (r : ReportOf FindingOf) → slice_get reports i ≡ Some r → r.lane ≡ i

-- What holds of the reports of every race, and of stored streams: they are those of lanes 0, 1 and so on; each has an end and events
-- for each job; their findings are true ones of the task; and a lane that won a cell carries a finding for its job.
pub record AreReported (mode : Mode) (span : Span) (d : DesignOf) (reports : List (ReportOf FindingOf)) : Type 0 where
  pub text : List ℕ
  pub reads : Reads text d
  pub is_span : IsSpan span
  pub are_true : AreTrue problem_in IsTrueFinding (record { text = text; mode = mode; span = span }) reports
  pub places : AreInPlace reports
  pub ends : All (λ r. length r.ends ≡ length (jobs_in mode span d)) reports
  pub events : All (λ r. length r.events ≡ length (jobs_in mode span d)) reports
  pub winners : WinnersHaveFindings mode reports

-- what is collected from the reports: the answers, the verdict that they decide, and the status
pub record IsCollected (mode : Mode) (span : Span) (d : DesignOf) (reports : List (ReportOf FindingOf)) (c : Collected) : Type 0 where
  pub are_answers : AreCollected job_of answer_of mode (length (jobs_in mode span d)) reports c.answers.items
  pub decided : Decided mode c.answers.items c.verdict
  pub has_status : IsStatusOf job_of mode reports c.answers.items c.status
  pub few : length c.answers.items < 2 ^ 32

-- it is given
abbrev pub IsGiven : Option ℕ → Type 0
IsGiven o = (n : ℕ) × (o ≡ Some n)

-- a lane is stopped under a time limit alone
abbrev pub AreLimited : Option ℕ → Option ℕ → List (ReportOf FindingOf) → Type 0
AreLimited start limit reports = (r : ReportOf FindingOf) (k t : ℕ) → Contains reports r → end_at r k ≡ Stopped t → IsGiven start × IsGiven limit
