-- What a text, and a trace file, show of cycles, line by line, in the terms of what is claimed of them.
use Rattle.std.specs.Prelude.{◌≡◌, ℕ, suc, ◌<◌, List, ◌++◌, length, Some, slice_get}
use Rattle.std.specs.List.{concat, flat_map}
use Rattle.sby_bits.specs.Rows.{Row}
use Rattle.design_core.specs.Shape.{DesignOf, WireOf}
use Rattle.design_meaning.specs.Meaning.{Valuation}
use Rattle.design_trace.specs.Changes.{change_line, time_line, vcd_head}
use Rattle.design_trace.specs.Trace.{cycle_line, wire_line}

-- the row is the value of wire w in v, bit by bit
abbrev pub IsValue : Valuation → ℕ → WireOf → Row → Type 0
IsValue v w wire row = (length row ≡ wire.width) × ((b : ℕ) → b < wire.width → slice_get row b ≡ Some (v.wire w b))

-- the line of wire w has its value in v
abbrev pub IsWireLine : Valuation → ℕ → WireOf → List ℕ → Type 0
IsWireLine v w wire line = (row : Row) × IsValue v w wire row × (line ≡ wire_line wire row)

-- the lines of cycle k, which is v: its head, then one of each wire, in file order
pub record AreCycleLines (d : DesignOf) (k : ℕ) (v : Valuation) (lines : List (List ℕ)) : Type 0 where
  pub count : length lines ≡ suc (length d.wires)
  pub head : slice_get lines 0 ≡ Some (cycle_line k)
  pub wires : (w : ℕ) (wire : WireOf) → slice_get d.wires w ≡ Some wire → (line : List ℕ) × (slice_get lines (suc w) ≡ Some line) × IsWireLine v w wire line

-- the text has the lines of n cycles, one cycle after the other from cycle 0 on, and nothing else
pub record Prints (d : DesignOf) (n : ℕ) (vs : ℕ → Valuation) (text : List ℕ) : Type 0 where
  pub cycles : List (List (List ℕ))
  pub count : length cycles ≡ n
  pub lines : (k : ℕ) (lines : List (List ℕ)) → slice_get cycles k ≡ Some lines → AreCycleLines d k (vs k) lines
  pub whole : text ≡ flat_map concat cycles

-- the line of wire w in a trace file has its value in v
abbrev pub IsChangeLine : Valuation → ℕ → WireOf → List ℕ → Type 0
IsChangeLine v w wire line = (row : Row) × IsValue v w wire row × (line ≡ change_line w wire row)

-- the lines of cycle k, which is v, in a trace file: its time, then one of each wire, in file order
pub record AreChangeLines (d : DesignOf) (k : ℕ) (v : Valuation) (lines : List (List ℕ)) : Type 0 where
  pub count : length lines ≡ suc (length d.wires)
  pub head : slice_get lines 0 ≡ Some (time_line k)
  pub wires : (w : ℕ) (wire : WireOf) → slice_get d.wires w ≡ Some wire → (line : List ℕ) × (slice_get lines (suc w) ≡ Some line) × IsChangeLine v w wire line

-- the trace file has the head, the lines of n cycles from cycle 0 on, the time n, and nothing else
pub record PrintsChanges (d : DesignOf) (n : ℕ) (vs : ℕ → Valuation) (bytes : List ℕ) : Type 0 where
  pub cycles : List (List (List ℕ))
  pub count : length cycles ≡ n
  pub lines : (k : ℕ) (lines : List (List ℕ)) → slice_get cycles k ≡ Some lines → AreChangeLines d k (vs k) lines
  pub whole : bytes ≡ vcd_head d ++ (flat_map concat cycles ++ time_line n)
