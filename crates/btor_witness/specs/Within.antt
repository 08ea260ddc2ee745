-- What holds of a reader.
use Rattle.std.specs.Prelude.{◌≡◌, ℕ, ◌+◌, ◌<◌, ◌≤◌, Bool, List, [], length, Some, slice_get}
use Rattle.btor_witness.specs.Machine.{WitnessesOf, widths_at}
use Rattle.btor_witness.specs.declared.line.Line.{Line}
use Rattle.btor_witness.specs.declared.line.Line.TheVariants as line
use Rattle.btor_witness.specs.declared.spot.Spot.{Spot}
use Rattle.btor_witness.specs.declared.spot.Spot.TheVariants as spot

-- in a part there is a frame
abbrev pub HasFrame : Spot → ℕ → Type 0
HasFrame spot.Skipping count = Unit {0}
HasFrame spot.Found count = Unit {0}
HasFrame spot.Named count = Unit {0}
HasFrame spot.InStates count = 0 < count
HasFrame spot.InInputs count = 0 < count
HasFrame spot.Whole count = Unit {0}
HasFrame (spot.Refused k) count = Unit {0}
HasFrame spot.Lost count = Unit {0}

-- a line's bits are part of the width of what has its number, or all of it
abbrev pub AreBitsOf : List ℕ → Line → List Bool → Type 0
AreBitsOf ws line.Blank bits = bits ≡ []
AreBitsOf ws (line.Word t) bits = bits ≡ []
AreBitsOf ws (line.Gap t) bits = bits ≡ []
AreBitsOf ws (line.Bads k t) bits = Unit {0}
AreBitsOf ws (line.BadsGap k) bits = Unit {0}
AreBitsOf ws (line.Bits n more) bits = (width : ℕ) × (slice_get ws n ≡ Some width) × (length bits + more ≡ width)
AreBitsOf ws (line.BitsGap n) bits = slice_get ws n ≡ Some (length bits)
AreBitsOf ws (line.Symbol n) bits = slice_get ws n ≡ Some (length bits)
AreBitsOf ws (line.SymbolGap n) bits = slice_get ws n ≡ Some (length bits)
AreBitsOf ws line.Other bits = Unit {0}

-- each frame took a byte
pub record IsSound (w : WitnessesOf) : Type 0 where
  pub count : w.reading.frames.count ≤ w.taken
  pub bits : AreBitsOf (widths_at w.reading.frames.shape w.reading.spot) w.scan.line w.scan.bits
