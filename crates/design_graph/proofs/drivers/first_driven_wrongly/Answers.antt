use Rattle.std.proofs.Common.{◌≡◌, ◌↔◌, ◌+◌, ℕ, Some, subst, arith}
use Rattle.std.specs.Prelude.{slice_get}
use Rattle.design_graph.specs.Items.{IsNext, DrivesBit}
use Rattle.design_graph.specs.declared.item.Item.{Item}
use Rattle.design_graph.specs.declared.item.Item.TheVariants.{Cell, Connect}
use Rattle.design_graph.proofs.Driving.{bits-declared, first-wrong, walked-next, walked-all, passed-cell, passed-connect, next-there, cell-cut, connect-cut, cell-kept, connect-kept}
use Rattle.design_signals.specs.declared.sig_bit.SigBit.{SigBit}
use Rattle.design_signals.specs.Chunks.{bits_of}
use Rattle.design_graph.proofs.drivers.first_driven_wrongly.Goals as goal

pub driven_by-requires : goal.driven_by-requires
driven_by-requires c = next-there c.args.design.now c.items.cells c.items.connects c.in-Some.item c.in-Some.ensures.some

pub take_bits-requires-clause-declared : goal.take_bits-requires-clause-declared
take_bits-requires-clause-declared c =
    bits-declared c.args.design.now c.places.ensures.design c.items.cells c.items.connects c.items.taken c.items.invariant c.in-Some.item c.in-Some.ensures.some (bits_of c.driven_by.result.now)
    c.driven_by.ensures.bits

pub returns-in-Some-take_bits : goal.returns-in-Some-take_bits
returns-in-Some-take_bits c =
    first-wrong c.args.design.now c.places.ensures.design c.items.cells c.items.connects c.items.taken c.items.invariant c.in-Some.item c.in-Some.ensures.some (bits_of c.driven_by.result.now)
    c.driven_by.ensures.bits c.in-Some-take_bits.bit c.in-Some-take_bits.ensures.some

pub items-preserved-in-Cell : goal.items-preserved-in-Cell
items-preserved-in-Cell c =
    let d = c.args.design.now in
    let is : c.in-Some.item ≡ Cell c.in-Cell.place = c.in-Cell.is in
    let n = subst (λ (e : Item). IsNext d c.items.cells c.items.connects e) is c.in-Some.ensures.some in
    let drives = subst (λ (e : Item). (k : ℕ) (a : SigBit) → (slice_get (bits_of c.driven_by.result.now) k ≡ Some a) ↔ DrivesBit d e k a) is c.driven_by.ensures.bits in
    walked-next d c.places.ensures.design c.items.cells c.items.connects c.items.taken c.items.invariant (Cell c.in-Cell.place) n (bits_of c.driven_by.result.now) drives
    c.take_bits.new.taken c.in_default-take_bits.ensures.none.0 c.in_default-take_bits.ensures.none.1 (c.in-Cell.place + 1) c.items.connects (cell-cut d c.items.cells c.items.connects c.in-Cell.place n)
    (λ f h. cell-kept c.items.cells c.items.connects c.in-Cell.place f n.0 h) (λ f h. passed-cell c.items.cells c.items.connects c.in-Cell.place f n.0 h) (omega arith)

pub items-preserved : goal.items-preserved
items-preserved c =
    let d = c.args.design.now in
    let is : c.in-Some.item ≡ Connect c.in-Connect.place = c.in-Connect.is in
    let n = subst (λ (e : Item). IsNext d c.items.cells c.items.connects e) is c.in-Some.ensures.some in
    let drives = subst (λ (e : Item). (k : ℕ) (a : SigBit) → (slice_get (bits_of c.driven_by.result.now) k ≡ Some a) ↔ DrivesBit d e k a) is c.driven_by.ensures.bits in
    walked-next d c.places.ensures.design c.items.cells c.items.connects c.items.taken c.items.invariant (Connect c.in-Connect.place) n (bits_of c.driven_by.result.now) drives
    c.take_bits.new.taken c.in_default-take_bits.ensures.none.0 c.in_default-take_bits.ensures.none.1 c.items.cells (c.in-Connect.place + 1) (connect-cut d c.items.cells c.items.connects c.in-Connect.place n)
    (λ f h. connect-kept c.items.cells c.items.connects c.in-Connect.place f n.0 h) (λ f h. passed-connect c.items.cells c.items.connects c.in-Connect.place f n.0 h) (omega arith)

pub returns : goal.returns
returns c = walked-all c.args.design.now c.items.cells c.items.connects c.items.taken c.items.invariant c.in_default.ensures.none
