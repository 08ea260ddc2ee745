use Rattle.std.proofs.Common.{List, ℕ, Option, drop}
use Rattle.sby_terms.specs.declared.names.Status.{Status}
use Rattle.sby_lines.specs.Lines.{HasCoverLines}
use Rattle.sby_lines.specs.Told.{asked_by, came}
use Rattle.sby_lines.proofs.TellLemmas.{ToldBefore}
use Rattle.sby_lines.proofs.tell_covers.tell_covers.Given as goal

abbrev pub invariant-loop-place : goal.invariant-loop-place
invariant-loop-place g l = record {
  told : (expect : List Status) (start : Option ℕ) (all : List (List ℕ)) → HasCoverLines (asked_by l.heading expect) (came l.flat l.reports start) 0 l.collected.answers.items all
      → (rest : List (List ℕ)) × HasCoverLines (asked_by l.heading expect) (came l.flat l.reports start) l.place (drop l.place l.collected.answers.items) rest
      × ToldBefore (g.S.Sink.taken l.fn.out) (g.S.Sink.taken l.out) (g.S.Sink.faults l.fn.out) (g.S.Sink.faults l.out) rest all;
}
