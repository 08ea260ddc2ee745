-- What the lines of a task show of runs.
use Rattle.std.specs.Prelude.{◌≡◌, ℕ, List, ◌∷◌, ◌++◌, Option, Some, None, Contains, slice_get}
use Rattle.judge.specs.Finding.{FindingOf}
use Rattle.design_core.specs.Shape.{CellOf, DesignOf}
use Rattle.design_meaning.specs.Meaning.{covers}
use Rattle.design_meaning.specs.Runs.{CycleOf, shown_of}
use Rattle.design_trace.specs.Trace.{trace}
use Rattle.sby_terms.specs.declared.names.Answer.{Answer}
use Rattle.sby_lines.specs.Broken.{AreLinesOf, IsBrokenCell, broken_line}
use Rattle.sby_lines.specs.Reached.{reached_line, unreached_line}
use Rattle.sby_lines.specs.Told.{CameTo, IsFirstSat, IsPrintedFinding, Request}

-- somewhere in the lines stands this one, then the trace of the run
abbrev pub IsTraced : DesignOf → List ℕ → List CycleOf → List (List ℕ) → Type 0
IsTraced d line run lines =
    (front : List (List ℕ)) × (traced : List (List ℕ)) × (back : List (List ℕ)) × AreLinesOf (trace d (shown_of run)) traced × (lines ≡ front ++ line ∷ (traced ++ back))

-- The run that FAIL of bmc or prove shows is that of the finding which is printed for the first job with answer Sat. The lines name
-- the first assertion that it breaks, and show it.
pub record ShowsBreak (request : Request) (c : CameTo) (answers : List (Option Answer)) (lines : List (List ℕ)) : Type 0 where
  pub place : ℕ
  pub finding : FindingOf
  pub run : List CycleOf
  pub cell : CellOf
  pub first : IsFirstSat answers place
  pub printed : IsPrintedFinding request.mode c.reports place finding
  pub carries : finding.run ≡ Some run
  pub broken : IsBrokenCell c.design run cell
  pub traced : IsTraced c.design (broken_line request.name cell run) run lines

-- A settled cover job shows its statement: with the run of the finding that is printed for it, or that none reaches it.
pub record ShowsStatement (request : Request) (c : CameTo) (place : ℕ) (answer : Answer) (lines : List (List ℕ)) : Type 0 where
  pub finding : FindingOf
  pub cell : CellOf
  pub printed : IsPrintedFinding request.mode c.reports place finding
  pub answers : finding.answer ≡ answer
  pub is_cell : slice_get (covers c.design) place ≡ Some cell
  pub reached : (run : List CycleOf) → finding.run ≡ Some run → IsTraced c.design (reached_line request.name cell run) run lines
  pub unreached : finding.run ≡ None → Contains lines (unreached_line request.name cell)
