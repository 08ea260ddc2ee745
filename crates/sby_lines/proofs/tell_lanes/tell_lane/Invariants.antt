use Rattle.std.proofs.Common.{List, drop, length}
use Rattle.sby_terms.specs.declared.names.JobName.{JobName}
use Rattle.sby_lines.specs.Jobs.{HasJobs}
use Rattle.sby_lines.specs.Lines.{lane_lines}
use Rattle.sby_lines.proofs.TellLemmas.{ToldBefore}
use Rattle.sby_lines.proofs.tell_lanes.tell_lane.Given as goal

abbrev pub invariant-loop-place : goal.invariant-loop-place
invariant-loop-place g l = record {
  told : (jobs : List JobName) → HasJobs l.heading.mode (length l.answers) jobs → ToldBefore (g.S.Sink.taken l.fn.out) (g.S.Sink.taken l.out) (g.S.Sink.faults l.fn.out) (g.S.Sink.faults l.out)
      (lane_lines l.heading.name.now l.slices l.report.lane (drop l.place jobs) (drop l.place l.answers) (drop l.place l.report.ends)) (lane_lines l.heading.name.now l.slices l.report.lane jobs l.answers l.report.ends);
}
