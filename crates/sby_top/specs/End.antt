-- A task's end as it is made.
use Rattle.std.specs.Prelude.{◌≡◌, ◌⊎◌, ℕ, List, [], string_bytes, take, Option, Some, None, Result, Ok, Err}
use Rattle.design_core.specs.Shape.{DesignOf}
use Rattle.judge.specs.Finding.{FindingOf}
use Rattle.race_core.specs.Report.{ReportOf}
use Rattle.sby_terms.specs.declared.names.Status.{Status}
use Rattle.sby_terms.specs.declared.names.Status.TheVariants.{Memory}
use Rattle.sby_lines.specs.Lines.{HasLines, IsStatus}
use Rattle.sby_lines.specs.Told.{CameTo, Request}
use Rattle.sby_lines.specs.declared.early.Early.{Early}
use Rattle.sby_lines.specs.declared.tell.Stop.{Stop}
use Rattle.sby_lines.specs.declared.tell.Stop.TheVariants.{Memory as MemoryStop, Sink}
use Rattle.sby_top.specs.Headline.{Exit, Code, Cut, IsPrinted}
use Rattle.sby_top.specs.Traces.{ArePutTraces, AreTraces, TraceOf}
use Rattle.sby_top.specs.World.{FilesOf}
use Rattle.sby_top.specs.declared.outcome.TaskEnd.{TaskEnd}
use Rattle.sby_top.specs.declared.run.Exit.{Exit as KeptExit}
use Rattle.sby_top.specs.declared.run.Exit.TheVariants.{Code as KeptCode, Cut as KeptCut}

-- what is kept of an exit
abbrev pub exit_seen : KeptExit → Exit
exit_seen (KeptCode rc) = Code rc
exit_seen KeptCut = Cut

-- the status and the exit, by how the lines were told
abbrev pub ended : {T : Type 0} → Result T Stop → Status → ℕ → Status × Exit
ended (Ok x) decided rc = (decided, Code rc)
ended (Err MemoryStop) decided rc = (Memory, Code 32)
ended (Err Sink) decided rc = (decided, Cut)

-- a task's end has these parts
pub record IsEnd (name : List ℕ) (early : Option Early) (text : List ℕ) (reports : List (ReportOf FindingOf)) (start : Option ℕ) (end : TaskEnd) : Type 0 where
  pub name_is : string_bytes end.name ≡ name
  pub early_is : end.early ≡ early
  pub text_is : end.text ≡ text
  pub reports_are : end.reports.items ≡ reports
  pub start_is : end.start ≡ start

-- the lines of a fault before the lanes were printed, and the status is that of the fault, or MEMORY
pub record IsFaultTold (request : Request) (early : Early) (before now : Option (List ℕ)) (faults_before faults : ℕ) (when : Option ℕ) (status : Status) (exit : Exit) : Type 0 where
  pub own : ((c : CameTo) → IsStatus request (Some early) c status) ⊎ (status ≡ Memory)
  pub printed : IsPrinted request.name before now faults_before faults when (HasLines request [] (Some early) [] None []) request.expect ((c : CameTo) → IsStatus request (Some early) c status) status exit

-- The trace files of the first runs shown were put, of all of them where this was not stopped.
pub record AreShownPut (request : Request) (d : DesignOf) (reports : List (ReportOf FindingOf)) (before after : FilesOf) (unput : List ℕ) (whole : Type 0) : Type 0 where
  pub traces : List TraceOf
  pub count : ℕ
  pub are_traces : (count ≡ 0) ⊎ AreTraces request (record { design = d; reports = reports; start = None }) traces
  pub put : ArePutTraces request d (take count traces) before after unput
  pub all : whole → AreTraces request (record { design = d; reports = reports; start = None }) traces × (take count traces ≡ traces)
