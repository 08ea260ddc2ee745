-- A design's fields as a design.
use Rattle.std.specs.Prelude.{◌≡◌, ℕ, ◌<◌, length, slice_index, string_bytes}
use Rattle.design_core.specs.Shape.{DesignOf, IsDesign, wire_bits}
use Rattle.design_core.specs.Places.{offset}
use Rattle.design_core.specs.declared.design.Design.TheInside.{Inside}

abbrev pub design_of : Inside → DesignOf
design_of a = record { name = string_bytes a.name; wires = a.wires.items; cells = a.cells.items; connects = a.connects.items; free = a.free }

-- a design, whose bits are counted, and whose wires' places are kept
pub record IsDesignInside (a : Inside) : Type 0 where
  pub design : IsDesign (design_of a)
  pub counted : a.bits ≡ wire_bits (design_of a)
  pub one_each : length a.offsets.items ≡ length a.wires.items
  pub placed : (w : ℕ) → w < length a.wires.items → slice_index a.offsets.items w ≡ offset (design_of a) w
