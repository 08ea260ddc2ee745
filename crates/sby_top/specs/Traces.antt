-- The trace files of a task.
use Rattle.std.specs.Prelude.{◌≡◌, ◌⊎◌, ℕ, ◌+◌, List, [], ◌∷◌, ◌++◌, Option, Some, None, option_map}
use Rattle.sby_edge.specs.Files.{Store, put_at}
use Rattle.judge.specs.Finding.{FindingOf}
use Rattle.race_core.specs.Told.{Decided}
use Rattle.design_core.specs.Shape.{DesignOf}
use Rattle.design_meaning.specs.Runs.{CycleOf, shown_of}
use Rattle.design_trace.specs.Changes.{vcd}
use Rattle.sby_terms.specs.declared.names.Answer.{Answer}
use Rattle.sby_terms.specs.declared.names.Mode.{Mode}
use Rattle.sby_terms.specs.declared.names.Mode.TheVariants.{Bmc, Prove, ProveInv, Cover}
use Rattle.sby_terms.specs.declared.names.Verdict.{Verdict}
use Rattle.sby_terms.specs.declared.names.Verdict.TheVariants.{Pass, Fail}
use Rattle.sby_lines.specs.Texts.{trace_path}
use Rattle.sby_lines.specs.Told.{AreAnswers, CameTo, IsFirstSat, IsPrintedFinding, Request}
use Rattle.sby_top.specs.World.{FilesOf, IsFailedAt}

-- a run that is shown, and the number of its trace file: of cover its statement's, else 0
pub record TraceOf : Type 0 where
  pub number : ℕ
  pub run : List CycleOf

-- the trace of the finding that is printed for the job at a place, where it carries a run
abbrev pub HasTrace : ℕ → Option (List CycleOf) → List TraceOf → Type 0
HasTrace number (Some run) traces = traces ≡ record { number = number; run = run } ∷ []
HasTrace number None traces = traces ≡ []

-- the traces of the cover statements from a place on, in their order
abbrev pub HasCoverTraces : Request → CameTo → ℕ → List (Option Answer) → List TraceOf → Type 0
HasCoverTraces request c place [] traces = traces ≡ []
HasCoverTraces request c place (None ∷ answers) traces = HasCoverTraces request c (place + 1) answers traces
HasCoverTraces request c place (Some answer ∷ answers) traces =
    (f : FindingOf) × (first : List TraceOf) × (rest : List TraceOf) × IsPrintedFinding request.mode c.reports place f × HasTrace place f.run first
    × HasCoverTraces request c (place + 1) answers rest × (traces ≡ first ++ rest)

-- FAIL has the trace of the run that is printed
abbrev pub HasFailTrace : Request → CameTo → List (Option Answer) → Option Verdict → List TraceOf → Type 0
HasFailTrace request c answers (Some Fail) traces =
    (place : ℕ) × (f : FindingOf) × IsFirstSat answers place × IsPrintedFinding request.mode c.reports place f × HasTrace 0 f.run traces
HasFailTrace request c answers (Some Pass) traces = traces ≡ []
HasFailTrace request c answers None traces = traces ≡ []

abbrev pub HasModeTraces : Mode → Request → CameTo → List (Option Answer) → Option Verdict → List TraceOf → Type 0
HasModeTraces Bmc request c answers verdict traces = HasFailTrace request c answers verdict traces
HasModeTraces Prove request c answers verdict traces = HasFailTrace request c answers verdict traces
HasModeTraces ProveInv request c answers verdict traces = HasFailTrace request c answers verdict traces
HasModeTraces Cover request c answers verdict traces = HasCoverTraces request c 0 answers traces

-- the runs that are shown, in the order in which they are printed
abbrev pub AreTraces : Request → CameTo → List TraceOf → Type 0
AreTraces request c traces =
    (answers : List (Option Answer)) × (verdict : Option Verdict) × AreAnswers request c answers × Decided request.mode answers verdict
    × HasModeTraces request.mode request c answers verdict traces

-- the store with a trace file put
abbrev pub with_trace : Request → DesignOf → TraceOf → Option Store → Option Store
with_trace request d trace told = option_map (put_at (trace_path request.name request.mode trace.number) (vcd d (shown_of trace.run))) told

-- These trace files were put, one after the other, and nothing else changed; those that couldn't be are listed by their numbers: a call
-- failed at the path of each.
abbrev pub ArePutTraces : Request → DesignOf → List TraceOf → FilesOf → FilesOf → List ℕ → Type 0
ArePutTraces request d [] before after unput = (after ≡ before) × (unput ≡ [])
ArePutTraces request d (trace ∷ traces) before after unput =
    ArePutTraces request d traces (record before { told = with_trace request d trace before.told }) after unput
    ⊎ ((middle : FilesOf) × (others : List ℕ) × IsFailedAt before middle (trace_path request.name request.mode trace.number)
    × ArePutTraces request d traces middle after others × (unput ≡ trace.number ∷ others))
