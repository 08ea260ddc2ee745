-- Bits on loops are declared.
use Rattle.std.proofs.Common.{inl, inr, ℕ}
use Rattle.design_core.specs.Shape.{DesignOf, IsDeclared, IsDesign}
use Rattle.design_meaning.specs.Rests.{RestsOn, IsOnLoop}
use Rattle.design_signals.specs.declared.sig_bit.SigBit.{SigBit}
use Rattle.design_signals.specs.declared.sig_bit.SigBit.TheVariants.{Wire}
use Rattle.design_graph.proofs.Declared.{left-declared, output-declared}

rests-declared : (d : DesignOf) → IsDesign d → (a b : SigBit) → RestsOn d a b → IsDeclared d.wires d.free a
rests-declared d shape a b (inl h) = output-declared d shape h.0 h.1 a h.2 h.3
rests-declared d shape a b (inr h) = left-declared d shape h.0 h.2 h.1 a h.3 h.4

pub loop-declared : (d : DesignOf) → IsDesign d → (w b : ℕ) → IsOnLoop d (Wire w b) → IsDeclared d.wires d.free (Wire w b)
loop-declared d shape w b h = rests-declared d shape (Wire w b) h.1.0 h.1.1
