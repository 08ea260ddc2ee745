use Rattle.std.proofs.Common.{List, drop, length}
use Rattle.sby_terms.specs.declared.names.JobName.{JobName}
use Rattle.sby_lines.specs.Jobs.{HasJobs}
use Rattle.sby_lines.specs.Lines.{race_lines}
use Rattle.sby_lines.proofs.TellLemmas.{ToldBefore}
use Rattle.sby_lines.proofs.tell_lanes.tell_race.Given as goal

abbrev pub invariant-loop-report : goal.invariant-loop-report
invariant-loop-report g l = record {
  told : (jobs : List JobName) → HasJobs l.heading.mode (length l.answers) jobs → ToldBefore (g.S.Sink.taken l.fn.out) (g.S.Sink.taken l.out) (g.S.Sink.faults l.fn.out) (g.S.Sink.faults l.out)
      (race_lines l.heading.name.now l.slices jobs l.answers (drop l.report-index l.reports)) (race_lines l.heading.name.now l.slices jobs l.answers l.reports);
}
