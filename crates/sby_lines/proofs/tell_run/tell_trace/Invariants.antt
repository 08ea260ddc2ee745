use Rattle.std.proofs.Common.{List, ℕ}
use Rattle.design_meaning.specs.Runs.{shown_of}
use Rattle.design_trace.specs.Trace.{trace}
use Rattle.sby_lines.specs.Broken.{AreLinesOf}
use Rattle.sby_lines.proofs.CycleLemmas.{CyclesBefore}
use Rattle.sby_lines.proofs.tell_run.tell_trace.Given as goal

abbrev pub invariant-loop-number : goal.invariant-loop-number
invariant-loop-number g l = record {
  told : (all : List (List ℕ)) → AreLinesOf (trace l.flat (shown_of l.played)) all
      → CyclesBefore l.flat l.played (g.S.Sink.taken l.fn.out) (g.S.Sink.taken l.out) (g.S.Sink.faults l.fn.out) (g.S.Sink.faults l.out) l.number all;
}
