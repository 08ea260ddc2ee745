-- Steps of finding what is printed.
use Rattle.std.specs.Prelude.{◌≡◌, ℕ, ◌<◌, List, Option, Some, slice_get}
use Rattle.judge.specs.Finding.{FindingOf}
use Rattle.race_core.specs.Carrying.{Carries}
use Rattle.race_core.specs.Report.{ReportOf}
use Rattle.race_core.specs.declared.end.JobEnd.{JobEnd}
use Rattle.sby_terms.specs.declared.names.Answer.{Answer}
use Rattle.sby_terms.specs.declared.names.JobName.{JobName}
use Rattle.sby_lines.specs.Told.{IsStoppedIn}

-- the ends carry no finding for the job
abbrev pub HasNoFinding : List (JobEnd FindingOf) → JobName → Type 0
HasNoFinding ends job = (j : ℕ) (e : JobEnd FindingOf) (f : FindingOf) → slice_get ends j ≡ Some e → Carries e f → f.job ≡ job → ⊥

-- the lane was stopped in an unsettled job, by this reading in the first
abbrev pub IsFirstStop : List (Option Answer) → ReportOf FindingOf → ℕ → Type 0
IsFirstStop answers r reading = (place : ℕ) × IsStoppedIn answers r place reading × ((k t : ℕ) → k < place → IsStoppedIn answers r k t → ⊥)

-- it was stopped in none
abbrev pub HasNoStop : List (Option Answer) → ReportOf FindingOf → Type 0
HasNoStop answers r = (k t : ℕ) → IsStoppedIn answers r k t → ⊥
