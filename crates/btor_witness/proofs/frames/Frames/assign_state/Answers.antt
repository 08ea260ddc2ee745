use Rattle.std.proofs.Common.{◌≡◌, ◌+◌, ◌≤◌, length, ap, sym, ◌∙◌, subst, arith}
use Rattle.std.specs.Prelude.{IfSome, Some, slice_get}
use Rattle.btor_witness.specs.Shape.{open_bits, widths}
use Rattle.btor_witness.proofs.Placing.{row_fits}
use Rattle.btor_witness.proofs.frames.Frames.assign_state.Goals as goal

pub put-requires : goal.put-requires
put-requires c =
    let width : slice_get (widths c.self.inside.shape.states) c.args.number ≡ Some (length c.args.bits.now) = ap (λ k. slice_get (widths k.shape.states) c.args.number) c.self.view_is ∙ c.requires in
    let items = ap (λ xs. length xs) c.deref_mut.ensures.value in
    let kept = c.self.invariant.0 in
    let room : 0 + open_bits c.self.inside.shape.states ≤ length c.deref_mut.result.now = omega arith in
    subst (λ o. IfSome o (λ p. IfSome p.first (λ first. 0 + first + length c.args.bits.now ≤ length c.deref_mut.result.now))) (sym c.place-place.ensures)
    (row_fits c.self.inside.shape.states c.args.number (length c.args.bits.now) 0 (length c.deref_mut.result.now) width room)
