use Rattle.std.proofs.Common.{◌≤◌, List, length, map, take}
use Rattle.std.specs.Prelude.{vec_capacity}
use Rattle.sby_terms.specs.declared.names.Status.{Status}
use Rattle.sby_lines.specs.Told.{asked_by}
use Rattle.sby_top.specs.Shown.{trace_seen}
use Rattle.sby_top.specs.Steps.{files_at}
use Rattle.sby_top.specs.Traces.{ArePutTraces}
use Rattle.sby_top.proofs.traces.put_traces.Given as goal

abbrev pub invariant-loop-run : goal.invariant-loop-run
invariant-loop-run g l = record {
  put : (expect : List Status) → ArePutTraces (asked_by l.heading expect) l.flat (take l.run-index (map trace_seen l.runs))
      (files_at (g.F.Files.told l.fn.files) (g.F.Files.faults l.fn.files) (g.F.Files.blamed l.fn.files)) (files_at (g.F.Files.told l.files) (g.F.Files.faults l.files) (g.F.Files.blamed l.files)) l.unput.items;
  count : length l.unput.items ≤ l.run-index;
  room : length l.runs ≤ vec_capacity l.unput;
  later : g.F.Files.faults l.fn.files ≤ g.F.Files.faults l.files;
}
