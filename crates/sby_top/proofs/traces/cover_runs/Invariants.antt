use Rattle.std.proofs.Common.{List, ◌++◌, drop, map}
use Rattle.std.specs.Prelude.{None}
use Rattle.sby_terms.specs.declared.names.Status.{Status}
use Rattle.sby_lines.specs.Told.{asked_by, came}
use Rattle.sby_top.specs.Shown.{trace_seen}
use Rattle.sby_top.specs.Traces.{HasCoverTraces, TraceOf}
use Rattle.sby_top.proofs.traces.cover_runs.Given as goal

abbrev pub invariant-loop-place : goal.invariant-loop-place
invariant-loop-place l = record {
  before : (expect : List Status) (more : List TraceOf) → HasCoverTraces (asked_by l.heading expect) (came l.flat l.reports None) l.place (drop l.place l.collected.answers.items) more
      → HasCoverTraces (asked_by l.heading expect) (came l.flat l.reports None) 0 l.collected.answers.items (map trace_seen l.shown.items ++ more);
}
