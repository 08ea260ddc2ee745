-- What is collected from the reports of a race.
use Rattle.race_core.specs.Asking.{name_at}
use Rattle.race_core.specs.Told.{Decided, told_by}
use Rattle.race_core.specs.Carrying.{Carries}
use Rattle.std.specs.Prelude.{◌≡◌, ◌≢◌, ◌⊎◌, ℕ, ◌<◌, ◌≤◌, List, Option, Some, None, length, slice_get, Contains, true}
use Rattle.sby_terms.specs.Problem.{ProblemOf}
use Rattle.sby_terms.specs.declared.names.Mode.{Mode}
use Rattle.sby_terms.specs.declared.names.JobName.{JobName}
use Rattle.sby_terms.specs.declared.names.Answer.{Answer}
use Rattle.sby_terms.specs.declared.names.Event.{Event}
use Rattle.sby_terms.specs.declared.names.Verdict.{Verdict}
use Rattle.sby_terms.specs.declared.names.Status.{Status}
use Rattle.sby_terms.specs.Status.{HasStatus}
use Rattle.race_core.specs.Report.{ReportOf}
use Rattle.race_core.specs.Consistent.{events_at, end_at}
use Rattle.race_core.specs.declared.end.JobEnd.{JobEnd}
use Rattle.race_core.specs.declared.event.LaneEvent.TheVariants as event

-- an end of the list carries this finding
abbrev pub CarriedIn : {T : Type 0} → List (JobEnd T) → T → Type 0
CarriedIn {T} ends f = (e : JobEnd T) × Contains ends e × Carries e f

-- a report has a finding for the job
abbrev pub SettledIn : {T : Type 0} → (T → JobName) → List (ReportOf T) → JobName → T → Type 0
SettledIn {T} job reports name f = (r : ReportOf T) × Contains reports r × CarriedIn r.ends f × (job f ≡ name)

-- the answer of the findings carried for a job, or none where none is carried
abbrev pub IsAnswer : {T : Type 0} → (T → Answer) → (T → Type 0) → Option Answer → Type 0
IsAnswer {T} answer carried (Some a) = (f : T) × carried f × (answer f ≡ a)
IsAnswer {T} answer carried None = (f : T) → carried f → ⊥

-- the lane won the cell of the job at this place
abbrev pub HasWon : {T : Type 0} → ReportOf T → ℕ → Type 0
HasWon r k = Contains (events_at r k).reader (event.Settle true)

-- the lowest lane of the reports of which P holds, or none where it holds of none
abbrev pub IsLowest : {T : Type 0} → (ReportOf T → Type 0) → List (ReportOf T) → Option ℕ → Type 0
IsLowest {T} P reports (Some lane) = ((r : ReportOf T) × Contains reports r × (r.lane ≡ lane) × P r) × ((q : ReportOf T) → Contains reports q → P q → lane ≤ q.lane)
IsLowest {T} P reports None = (q : ReportOf T) → Contains reports q → P q → ⊥

-- the report carries a finding for the job
abbrev pub HasFinding : {T : Type 0} → (T → JobName) → JobName → ReportOf T → Type 0
HasFinding {T} job name r = (f : T) × CarriedIn r.ends f × (job f ≡ name)

-- The lane whose finding is printed: the lowest that won the cell; where none won, the lowest with a finding.
abbrev pub IsPrinting : {T : Type 0} → (T → JobName) → List (ReportOf T) → ℕ → JobName → Option ℕ → Type 0
IsPrinting {T} job reports k name lane =
    (IsLowest (λ r. HasWon r k) reports lane × (lane ≢ None))
    ⊎ (IsLowest (λ r. HasWon r k) reports None × IsLowest (HasFinding job name) reports lane)

-- the status, by the verdict of the answers, else by the ends of the unsettled jobs
pub record IsStatus {T : Type 0} (job : T → JobName) (mode : Mode) (reports : List (ReportOf T)) (answers : List (Option Answer)) (status : Status) : Type 0 where
  pub decided : Option Verdict
  pub decides : Decided mode answers decided
  pub events : List Event
  pub come : (e : Event) → Contains events e → (r : ReportOf T) × (k : ℕ) × Contains reports r × (slice_get answers k ≡ Some None) × (told_by (end_at r k) ≡ e)
  pub all : (r : ReportOf T) (k : ℕ) → Contains reports r → slice_get answers k ≡ Some None → Contains events (told_by (end_at r k))
  pub has_status : HasStatus decided events status

-- none of the first ends carries a finding for the job
abbrev pub NoneBefore : {T : Type 0} → (T → JobName) → JobName → ℕ → List (JobEnd T) → Type 0
NoneBefore {T} job name n ends = (j : ℕ) (e : JobEnd T) (f : T) → j < n → slice_get ends j ≡ Some e → Carries e f → job f ≡ name → ⊥

-- none of the first reports has one
abbrev pub NoneAmong : {T : Type 0} → (T → JobName) → JobName → ℕ → List (ReportOf T) → Type 0
NoneAmong {T} job name n reports = (j : ℕ) (r : ReportOf T) (f : T) → j < n → slice_get reports j ≡ Some r → CarriedIn r.ends f → job f ≡ name → ⊥

-- one entry per job: the answer of the findings that the reports carry for it
pub record AreCollected {T : Type 0} (job : T → JobName) (answer : T → Answer) (mode : Mode) (jobs : ℕ) (reports : List (ReportOf T)) (answers : List (Option Answer)) : Type 0 where
  pub size : length answers ≡ jobs
  pub entry : (k : ℕ) (o : Option Answer) → slice_get answers k ≡ Some o → IsAnswer answer (λ f. SettledIn job reports (name_at mode k) f) o

-- what the ends of the unsettled jobs below n say
pub record AreTold {T : Type 0} (reports : List (ReportOf T)) (answers : List (Option Answer)) (n : ℕ) (events : List Event) : Type 0 where
  pub come : (e : Event) → Contains events e → (r : ReportOf T) × (k : ℕ) × Contains reports r × (k < n) × (slice_get answers k ≡ Some None) × (told_by (end_at r k) ≡ e)
  pub all : (r : ReportOf T) (k : ℕ) → Contains reports r → k < n → slice_get answers k ≡ Some None → Contains events (told_by (end_at r k))

-- the printing lane of each job
pub record ArePrinting {T : Type 0} (job : T → JobName) (mode : Mode) (jobs : ℕ) (reports : List (ReportOf T)) (lanes : List (Option ℕ)) : Type 0 where
  pub size : length lanes ≡ jobs
  pub each : (k : ℕ) (lane : Option ℕ) → slice_get lanes k ≡ Some lane → IsPrinting job reports k (name_at mode k) lane

-- what is collected
pub record IsOutcome {T : Type 0} (job : T → JobName) (answer : T → Answer) (mode : Mode) (jobs : ℕ) (reports : List (ReportOf T))
    (answers : List (Option Answer)) (lanes : List (Option ℕ)) (status : Status) : Type 0 where
  pub are_answers : AreCollected job answer mode jobs reports answers
  pub are_printing : ArePrinting job mode jobs reports lanes
  pub has_status : IsStatus job mode reports answers status

-- the same reports, in whatever order
abbrev pub SameMembers : {T : Type 0} → List (ReportOf T) → List (ReportOf T) → Type 0
SameMembers {T} xs ys = ((r : ReportOf T) → Contains xs r → Contains ys r) × ((r : ReportOf T) → Contains ys r → Contains xs r)

-- all findings carried are true ones of the problem
abbrev pub AreTrue : {T : Type 0} → (T → ProblemOf) → (T → Type 0) → ProblemOf → List (ReportOf T) → Type 0
AreTrue {T} problem is_true p reports = (r : ReportOf T) (f : T) → Contains reports r → CarriedIn r.ends f → is_true f × (problem f ≡ p)
