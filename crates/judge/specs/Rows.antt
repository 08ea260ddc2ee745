-- The cycles of a design in the rows of its model.
use Rattle.std.specs.Prelude.{◌≡◌, ℕ, ◌+◌, List, All, drop, length, map, take}
use Rattle.sby_bits.specs.Rows.{Row}
use Rattle.design_meaning.specs.Runs.{CycleOf}

-- a model's row has the wires' bits, the free bits, the two constants, and the stored rows: this many bits of each
abbrev pub cycle_in : ℕ → ℕ → ℕ → Row → CycleOf
cycle_in wires free kept row = record { wires = take wires row; free = take free (drop wires row); kept = take kept (drop (wires + free + 2) row) }

abbrev pub cycles_in : ℕ → ℕ → ℕ → List Row → List CycleOf
cycles_in wires free kept rows = map (cycle_in wires free kept) rows

-- each row has these bits
abbrev pub AreRowsOf : ℕ → ℕ → ℕ → List Row → Type 0
AreRowsOf wires free kept rows = All (λ row. length row ≡ wires + free + 2 + kept) rows
