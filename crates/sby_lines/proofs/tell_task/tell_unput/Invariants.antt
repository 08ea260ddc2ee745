use Rattle.std.proofs.Common.{drop, map}
use Rattle.sby_lines.specs.Lines.{unput_line}
use Rattle.sby_lines.proofs.TellLemmas.{ToldBefore}
use Rattle.sby_lines.proofs.tell_task.tell_unput.Given as goal

abbrev pub invariant-loop-number : goal.invariant-loop-number
invariant-loop-number g l = record {
  told : ToldBefore (g.S.Sink.taken l.fn.out) (g.S.Sink.taken l.out) (g.S.Sink.faults l.fn.out) (g.S.Sink.faults l.out)
      (map (unput_line l.heading.name.now l.heading.mode) (drop l.number-index l.unput)) (map (unput_line l.heading.name.now l.heading.mode) l.unput);
}
