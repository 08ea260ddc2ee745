-- The text of a run: cycle by cycle, what each wire has.
use Rattle.std.specs.Prelude.{◌≡◌, ℕ, ◌+◌, ◌<◌, ◌≤◌, Bool, if◌then◌else◌, List, [], ◌∷◌, ◌++◌, map, length, take, drop, reverse, codes}
use Rattle.std.specs.Fmt.{decimal}
use Rattle.sby_bits.specs.Rows.{Row}
use Rattle.design_core.specs.Shape.{DesignOf, WireOf}
use Rattle.design_meaning.specs.Runs.{IsShownOf}

-- a bit, as `0` or `1`
abbrev pub digit : Bool → ℕ
digit b = if b then 49 else 48

-- a row's bits, highest first
abbrev pub value_text : Row → List ℕ
value_text row = map digit (reverse row)

-- a wire's line: its name, a space, its bits
abbrev pub wire_line : WireOf → Row → List ℕ
wire_line w row = w.name ++ 32 ∷ (value_text row ++ 10 ∷ [])

-- the lines of wires in file order, whose bits stand in one row
abbrev pub wire_lines : List WireOf → Row → List ℕ
wire_lines [] row = []
wire_lines (w ∷ ws) row = wire_line w (take w.width row) ++ wire_lines ws (drop w.width row)

-- the line `cycle K`
abbrev pub cycle_line : ℕ → List ℕ
cycle_line k = codes "cycle " ++ (decimal k ++ 10 ∷ [])

-- the text of one cycle
abbrev pub cycle_text : DesignOf → ℕ → Row → List ℕ
cycle_text d k row = cycle_line k ++ wire_lines d.wires row

-- the cycles from cycle k on
abbrev pub cycles_from : DesignOf → ℕ → List Row → List ℕ
cycles_from d k [] = []
cycles_from d k (row ∷ rows) = cycle_text d k row ++ cycles_from d (k + 1) rows

-- the text of what the wires have in each cycle, from cycle 0 on
abbrev pub trace : DesignOf → List Row → List ℕ
trace d rows = cycles_from d 0 rows

-- the bytes are the text of at least one cycle of this design
pub record IsTrace (d : DesignOf) (rows : List Row) (bytes : List ℕ) : Type 0 where
  pub fits : IsShownOf d rows
  pub some : 0 < length rows
  pub text : bytes ≡ trace d rows

-- some trace of this design begins so
abbrev pub Begins : DesignOf → List ℕ → Type 0
Begins d bytes = (rest : List ℕ) × (rows : List Row) × IsTrace d rows (bytes ++ rest)

-- the bytes are no trace of this design, and n bytes are their longest prefix that begins one
pub record IsFault (d : DesignOf) (bytes : List ℕ) (n : ℕ) : Type 0 where
  pub none : (rows : List Row) → IsTrace d rows bytes → ⊥
  pub within : n ≤ length bytes
  pub begins : Begins d (take n bytes)
  pub longest : (m : ℕ) → n < m → m ≤ length bytes → Begins d (take m bytes) → ⊥
