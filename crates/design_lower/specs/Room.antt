-- Whether a lowered design is within the limits that every design has.
use Rattle.std.specs.Prelude.{◌≡◌, ◌⊎◌, ◌+◌, ◌≤◌, ◌^◌, List, [], ◌∷◌, length}
use Rattle.std.specs.List.{sum_by}
use Rattle.design_core.specs.Asked.{number_at}
use Rattle.design_core.specs.Shape.{CellOf, DesignOf, wire_bits}
use Rattle.design_core.specs.declared.names.ParameterName.TheVariants.{Width}
use Rattle.design_lower.specs.Lowering.{FitsReset}

-- those of these cells that fit, in file order
abbrev pub AreRegisters : List CellOf → List CellOf → Type 0
AreRegisters [] registers = registers ≡ []
AreRegisters (c ∷ cells) registers = ((FitsReset c → ⊥) × AreRegisters cells registers) ⊎ (FitsReset c × ((rest : List CellOf) × (registers ≡ c ∷ rest) × AreRegisters cells rest))

-- With a new wire of its width and a new cell for each register that fits, the design is within the limits of a design.
pub record HasRoom (d : DesignOf) : Type 0 where
  pub registers : List CellOf
  pub each : AreRegisters d.cells registers
  pub bits : wire_bits d + d.free + sum_by (λ c. number_at c.parameters Width) registers ≤ 2 ^ 21
  pub cells : length d.cells + length registers ≤ 2 ^ 27
