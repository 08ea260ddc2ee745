use Rattle.std.proofs.Common.{List, drop, length}
use Rattle.sby_terms.specs.declared.names.JobName.{JobName}
use Rattle.sby_lines.specs.Jobs.{HasJobs}
use Rattle.sby_lines.specs.Lines.{settled_lines}
use Rattle.sby_lines.proofs.TellLemmas.{ToldBefore}
use Rattle.sby_lines.proofs.tell_lanes.tell_answers.Given as goal

abbrev pub invariant-loop-place : goal.invariant-loop-place
invariant-loop-place g l = record {
  told : (jobs : List JobName) → HasJobs l.heading.mode (length l.answers) jobs → ToldBefore (g.S.Sink.taken l.fn.out) (g.S.Sink.taken l.out) (g.S.Sink.faults l.fn.out) (g.S.Sink.faults l.out)
      (settled_lines l.heading.name.now l.slices (drop l.place jobs) (drop l.place l.answers)) (settled_lines l.heading.name.now l.slices jobs l.answers);
}
