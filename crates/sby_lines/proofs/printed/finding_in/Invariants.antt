use Rattle.race_core.specs.Collect.{NoneBefore}
use Rattle.sby_lines.specs.Told.{job_of}
use Rattle.sby_lines.proofs.printed.finding_in.Given as goal

abbrev pub invariant-loop-end : goal.invariant-loop-end
invariant-loop-end l = NoneBefore job_of l.job l.end-index l.end-items
