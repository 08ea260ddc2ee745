-- Cycles of a lowered design, looked at as cycles of the design.
use Rattle.std.specs.Prelude.{◌≡◌, ℕ}
use Rattle.design_core.specs.Shape.{CellOf, DesignOf, IsDeclared}
use Rattle.design_meaning.specs.Meaning.{Valuation, IsCell, bit_in, held_row}
use Rattle.design_signals.specs.declared.sig_bit.SigBit.{SigBit}

-- d's wires and free bits have the same in both, and at each place of d's cells both cells hold one row
pub record IsSeen (d e : DesignOf) (v w : Valuation) : Type 0 where
  pub bits : (b : SigBit) → IsDeclared d.wires d.free b → bit_in v b ≡ bit_in w b
  pub held : (i : ℕ) (c x : CellOf) → IsCell d i c → IsCell e i x → held_row v i c ≡ held_row w i x
