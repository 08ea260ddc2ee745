-- A run that breaks an assertion, and its lines.
use Rattle.std.specs.Prelude.{◌≡◌, ℕ, ◌-◌, ◌<◌, List, [], ◌∷◌, ◌++◌, length, Some, slice_get, All, Contains}
use Rattle.std.specs.List.{concat}
use Rattle.design_meaning.specs.Meaning.{Broken, Valuation, asserts}
use Rattle.design_meaning.specs.Runs.{CycleOf, IsRunOf, shown_of, valuations}
use Rattle.design_core.specs.Shape.{CellOf, DesignOf}
use Rattle.sby_lines.specs.Texts.{broken_text, line_of}
use Rattle.design_trace.specs.Trace.{trace}

-- a line: its last byte is its one line feed
abbrev pub IsLine : List ℕ → Type 0
IsLine line = (text : List ℕ) × (line ≡ text ++ 10 ∷ []) × (Contains text 10 → ⊥)

-- the lines of a text: together they are the text
abbrev pub AreLinesOf : List ℕ → List (List ℕ) → Type 0
AreLinesOf text lines = (concat lines ≡ text) × All IsLine lines

-- assertion a is broken in v, and none before it in the file is
abbrev pub IsFirstBroken : DesignOf → Valuation → ℕ → Type 0
IsFirstBroken d v a = Broken d v a × ((k : ℕ) → k < a → Broken d v k → ⊥)

-- what a run's last cycle has
abbrev pub last_of : DesignOf → List CycleOf → Valuation
last_of d run = valuations d run (length run - 1)

-- a run of the design, which breaks an assertion in its last cycle
pub record Breaks (d : DesignOf) (run : List CycleOf) : Type 0 where
  pub rows : IsRunOf d run
  pub some : 0 < length run
  pub broken : (a : ℕ) × Broken d (last_of d run) a

-- the cell of the assertion that a run breaks: the first one broken in its last cycle
abbrev pub IsBrokenCell : DesignOf → List CycleOf → CellOf → Type 0
IsBrokenCell d run cell = (a : ℕ) × IsFirstBroken d (last_of d run) a × (slice_get (asserts d) a ≡ Some cell)

-- the line that names an assertion and the number of a run's last cycle
abbrev pub broken_line : List ℕ → CellOf → List CycleOf → List ℕ
broken_line name cell run = line_of name (broken_text cell.name (length run - 1))

-- The lines of a run: that of the assertion that it breaks, then those of its trace.
pub record HasBrokenLines (d : DesignOf) (name : List ℕ) (run : List CycleOf) (lines : List (List ℕ)) : Type 0 where
  pub cell : CellOf
  pub traced : List (List ℕ)
  pub is_broken : IsBrokenCell d run cell
  pub is_trace : AreLinesOf (trace d (shown_of run)) traced
  pub all : lines ≡ broken_line name cell run ∷ traced
