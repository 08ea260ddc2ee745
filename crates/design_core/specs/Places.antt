-- Where the bits of a design stand in one row: all wires' bits in file order, lowest first, then the free bits, then the two constants.
use Rattle.std.specs.Prelude.{ℕ, ◌+◌, take, cond}
use Rattle.std.specs.List.{sum_by}
use Rattle.design_core.specs.Shape.{DesignOf, wire_bits}
use Rattle.design_signals.specs.declared.sig_bit.SigBit.{SigBit}
use Rattle.design_signals.specs.declared.sig_bit.SigBit.TheVariants.{Wire, Const, Free}

-- the place of a wire's lowest bit
abbrev pub offset : DesignOf → ℕ → ℕ
offset d w = sum_by (λ x. x.width) (take w d.wires)

abbrev pub place_of : DesignOf → SigBit → ℕ
place_of d (Wire w b) = offset d w + b
place_of d (Free n) = wire_bits d + n
place_of d (Const b) = wire_bits d + d.free + cond b 1 0

-- how many places there are
abbrev pub places : DesignOf → ℕ
places d = wire_bits d + d.free + 2
