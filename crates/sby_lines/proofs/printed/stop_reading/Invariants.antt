use Rattle.std.proofs.Common.{◌≡◌, ℕ, ◌<◌, Some}
use Rattle.std.specs.Prelude.{slice_get}
use Rattle.judge.specs.Finding.{FindingOf}
use Rattle.race_core.specs.Report.{ReportOf}
use Rattle.sby_lines.specs.Printed.{HasNoStop}
use Rattle.sby_lines.proofs.printed.stop_reading.Given as goal

abbrev pub invariant-loop-report : goal.invariant-loop-report
invariant-loop-report l = (i : ℕ) (r : ReportOf FindingOf) → i < l.report-index → slice_get l.reports i ≡ Some r → HasNoStop l.answers r
