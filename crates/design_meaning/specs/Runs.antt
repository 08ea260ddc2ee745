-- A run as data: what all bits have in each cycle.
use Rattle.std.specs.Prelude.{◌≡◌, ℕ, ◌+◌, false, List, [], map, length, take, All, slice_index_or}
use Rattle.std.specs.List.{sum_by}
use Rattle.sby_bits.specs.Rows.{Row}
use Rattle.design_core.specs.Asked.{output_of}
use Rattle.design_core.specs.Places.{offset}
use Rattle.design_core.specs.Shape.{CellOf, DesignOf, wire_bits}
use Rattle.design_core.specs.Table.{role_of}
use Rattle.design_core.specs.declared.table.Role.{Role}
use Rattle.design_core.specs.declared.table.Role.TheVariants.{Combinational, Register, AsyncResetRegister, Constant, Initial, Source, Statement, Unsupported}
use Rattle.design_meaning.specs.Meaning.{Valuation}

-- What all wires' bits have in one cycle, in file order, lowest first; what the free bits have, by their numbers; and what the
-- registers with an asynchronous reset keep, in file order, lowest first.
pub record CycleOf : Type 0 where
  pub wires : Row
  pub free : Row
  pub kept : Row

abbrev pub no_cycle : CycleOf
no_cycle = record { wires = []; free = []; kept = [] }

-- how many bits a cell keeps beside the wires
abbrev pub kept_by_role : Role → ℕ → ℕ
kept_by_role Combinational width = 0
kept_by_role Register width = 0
kept_by_role AsyncResetRegister width = width
kept_by_role Constant width = 0
kept_by_role Initial width = 0
kept_by_role Source width = 0
kept_by_role Statement width = 0
kept_by_role Unsupported width = 0

abbrev pub kept_width : CellOf → ℕ
kept_width c = kept_by_role (role_of c.kind) (length (output_of c))

-- how many bits all cells keep; where those of the cell at a place begin
abbrev pub kept_bits : DesignOf → ℕ
kept_bits d = sum_by kept_width d.cells

abbrev pub kept_offset : DesignOf → ℕ → ℕ
kept_offset d i = sum_by kept_width (take i d.cells)

-- bit b of wire w stands b places after the wire's lowest, bit k of a stored row k places after the row's lowest
abbrev pub valuation_of : DesignOf → CycleOf → Valuation
valuation_of d c = record {
  wire = λ w b. slice_index_or c.wires (offset d w + b) false;
  free = λ n. slice_index_or c.free n false;
  kept = λ i k. slice_index_or c.kept (kept_offset d i + k) false;
}

-- the cycles as a function of time
abbrev pub valuations : DesignOf → List CycleOf → ℕ → Valuation
valuations d cycles t = valuation_of d (slice_index_or cycles t no_cycle)

-- the rows have this design's lengths
pub record IsCycleOf (d : DesignOf) (c : CycleOf) : Type 0 where
  pub wires : length c.wires ≡ wire_bits d
  pub free : length c.free ≡ d.free
  pub kept : length c.kept ≡ kept_bits d

abbrev pub IsRunOf : DesignOf → List CycleOf → Type 0
IsRunOf d cycles = All (IsCycleOf d) cycles

-- of a run, what its wires have
abbrev pub shown_of : List CycleOf → List Row
shown_of cycles = map (λ c. c.wires) cycles

abbrev pub IsShownOf : DesignOf → List Row → Type 0
IsShownOf d rows = All (λ r. length r ≡ wire_bits d) rows
