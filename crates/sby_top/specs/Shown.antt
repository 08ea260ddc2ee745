-- Runs that are shown, as the steps of putting their trace files see them.
use Rattle.std.specs.Prelude.{◌≡◌, ℕ, List, [], Option, Some, None, Bool, true, false, take, option_map, All}
use Rattle.design_core.specs.Shape.{DesignOf}
use Rattle.design_meaning.specs.Runs.{IsRunOf}
use Rattle.sby_edge.specs.Files.{put_at}
use Rattle.sby_lines.specs.Texts.{trace_path}
use Rattle.judge.specs.Finding.{FindingOf}
use Rattle.race_core.specs.Report.{ReportOf}
use Rattle.sby_terms.specs.declared.names.Answer.{Answer}
use Rattle.sby_terms.specs.declared.names.Mode.{Mode}
use Rattle.sby_lines.specs.Told.{IsPrintedFinding, Request}
use Rattle.sby_top.specs.Traces.{ArePutTraces, HasTrace, TraceOf, with_trace}
use Rattle.sby_top.specs.World.{FilesOf, IsFailedAt}
use Rattle.sby_top.specs.declared.traces.Shown.{Shown}

-- the number and the run
abbrev pub trace_seen : Shown → TraceOf
trace_seen s = record { number = s.number; run = s.run.now }

-- each run is one of the design
abbrev pub AreFitting : DesignOf → List TraceOf → Type 0
AreFitting d traces = All (λ t. IsRunOf d t.run) traces

-- the trace of a cover statement, which has one where its job is settled and its finding carries a run
abbrev pub IsStatementTrace : Mode → List (ReportOf FindingOf) → ℕ → Option Answer → List TraceOf → Type 0
IsStatementTrace mode reports place (Some answer) own = (f : FindingOf) × IsPrintedFinding mode reports place f × HasTrace place f.run own
IsStatementTrace mode reports place None own = own ≡ []

-- a file was put at this path; or the call failed
abbrev pub IsFilePut : List ℕ → List ℕ → FilesOf → FilesOf → Bool → Type 0
IsFilePut path bytes before after true = after ≡ record before { told = option_map (put_at path bytes) before.told }
IsFilePut path bytes before after false = IsFailedAt before after path

-- the trace file was put; or its call failed
abbrev pub IsOnePut : Request → DesignOf → TraceOf → FilesOf → FilesOf → Bool → Type 0
IsOnePut request d trace before after true = after ≡ record before { told = with_trace request d trace before.told }
IsOnePut request d trace before after false = IsFailedAt before after (trace_path request.name request.mode trace.number)

-- The trace files of the first runs were put, of all where all went well but for failed calls.
pub record ArePutUpto (request : Request) (d : DesignOf) (traces : List TraceOf) (before after : FilesOf) (unput : List ℕ) (whole : Type 0) : Type 0 where
  pub count : ℕ
  pub put : ArePutTraces request d (take count traces) before after unput
  pub all : whole → take count traces ≡ traces
