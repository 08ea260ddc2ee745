use Rattle.std.proofs.Common.{◌∙◌, List, Bool, length, ap, arith}
use Rattle.design_core.specs.Places.{place_of}
use Rattle.design_core.proofs.Places.{place_of-wire}
use Rattle.design_check.proofs.flat.bit_in.Goals as goal

pub bounds-wires-place : goal.bounds-wires-place
bounds-wires-place c =
    let d = c.args.design.now in
    let declared = rw c.in-Wire.is at c.requires.declared in
    let at = c.place.ensures.place ∙ ap (place_of c.args.design.now) c.in-Wire.is in
    let lt = place_of-wire d c.in-Wire.field-0 c.in-Wire.field-1 declared in
    let len = ap (λ (r : List Bool). length r) c.wires.ensures in
    omega (arith, at, lt, len, c.requires.rows.wires)
