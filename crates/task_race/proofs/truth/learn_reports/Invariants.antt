use Rattle.std.proofs.Common.{◌≡◌, ◌<◌, ℕ, Some}
use Rattle.std.specs.Prelude.{slice_get}
use Rattle.judge.specs.Finding.{FindingOf, IsTrueFinding}
use Rattle.race_core.specs.Collect.{CarriedIn}
use Rattle.race_core.specs.Report.{ReportOf}
use Rattle.task_race.proofs.truth.learn_reports.Given as goal

abbrev pub invariant-loop-report : goal.invariant-loop-report
invariant-loop-report l = (j : ℕ) (r : ReportOf FindingOf) → j < l.report-index → slice_get l.reports j ≡ Some r → (f : FindingOf) → CarriedIn r.ends f → IsTrueFinding f
