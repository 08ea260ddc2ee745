use Rattle.std.proofs.Common.{◌≡◌, ◌+◌, ◌-◌, ◌<◌, ◌≤◌, length, ap, sym, ◌∙◌, subst, arith}
use Rattle.std.specs.Prelude.{IfSome, Some, slice_get}
use Rattle.btor_witness.specs.Shape.{open_bits, widths}
use Rattle.btor_witness.proofs.Placing.{row_fits}
use Rattle.btor_witness.proofs.frames.Frames.assign_input.Goals as goal

pub put-requires : goal.put-requires
put-requires c =
    let width : slice_get (widths c.self.inside.shape.inputs) c.args.number ≡ Some (length c.args.bits.now) = ap (λ k. slice_get (widths k.shape.inputs) c.args.number) c.self.view_is ∙ c.requires.width in
    let items = ap (λ xs. length xs) c.deref_mut.ensures.value in
    let count = ap (λ k. k.count) c.self.view_is in
    let some : 0 < c.self.inside.count = let s = c.requires.some in omega arith in
    let long = c.self.invariant.1 some c.if-self.true in
    let room : c.len.result - c.open_bits.result + open_bits c.self.inside.shape.inputs ≤ length c.deref_mut.result.now = omega arith in
    subst (λ o. IfSome o (λ p. IfSome p.first (λ first. c.len.result - c.open_bits.result + first + length c.args.bits.now ≤ length c.deref_mut.result.now))) (sym c.place-place.ensures)
    (row_fits c.self.inside.shape.inputs c.args.number (length c.args.bits.now) (c.len.result - c.open_bits.result) (length c.deref_mut.result.now) width room)
