-- How many wires there can be.
use Rattle.std.proofs.Common.{◌≤◌, List, [], ◌∷◌, length, All, arith}
use Rattle.std.specs.List.{sum_by}
use Rattle.std.proofs.lemmas.List.Elements.{All-head, All-tail}
use Rattle.std.proofs.lemmas.List.Sums.{sum_by-cons}
use Rattle.design_core.specs.Shape.{WireOf, DesignOf, IsWire, IsDesign, wire_bits}

few : (ws : List WireOf) → All IsWire ws → length ws ≤ sum_by (λ (w : WireOf). w.width) ws
few [] h = omega arith
few (w ∷ ws) h =
    let some = (All-head IsWire w ws h).0 in
    let rest = few ws (All-tail IsWire w ws h) in
    omega (arith, sum_by-cons (λ (w : WireOf). w.width) w ws)

-- each wire has a bit
pub wires-few : (d : DesignOf) → IsDesign d → length d.wires ≤ wire_bits d
wires-few d h = few d.wires h.wires
