-- The lines of a run that reaches a cover statement, and of a statement that isn't reached.
use Rattle.std.specs.Prelude.{◌≡◌, ℕ, ◌-◌, ◌<◌, List, [], ◌∷◌, length, Option, Some, None}
use Rattle.design_meaning.specs.Runs.{CycleOf, IsRunOf, shown_of}
use Rattle.design_core.specs.Shape.{CellOf, DesignOf}
use Rattle.sby_lines.specs.Broken.{AreLinesOf}
use Rattle.sby_lines.specs.Texts.{line_of, reached_text, unreached_text}
use Rattle.design_trace.specs.Trace.{trace}

-- the line that names a cover statement and the number of a run's last cycle; that of one which no run reaches
abbrev pub reached_line : List ℕ → CellOf → List CycleOf → List ℕ
reached_line name cell run = line_of name (reached_text cell.name (length run - 1))

abbrev pub unreached_line : List ℕ → CellOf → List ℕ
unreached_line name cell = line_of name (unreached_text cell.name)

-- the lines of a cover statement's finding: with a run, that it is reached and the run's trace; without, that it isn't
abbrev pub HasReachLines : DesignOf → List ℕ → CellOf → Option (List CycleOf) → List (List ℕ) → Type 0
HasReachLines d name cell (Some run) lines =
    (traced : List (List ℕ)) × AreLinesOf (trace d (shown_of run)) traced × (lines ≡ reached_line name cell run ∷ traced)
HasReachLines d name cell None lines = lines ≡ unreached_line name cell ∷ []

-- a run of the design, of some cycles
abbrev pub Reaches : DesignOf → List CycleOf → Type 0
Reaches d run = IsRunOf d run × (0 < length run)
