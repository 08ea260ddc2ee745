use Rattle.std.proofs.Common.{◌≡◌, ◌<◌, length, slice_index, arith}
use Rattle.std.proofs.lemmas.List.{get_or_read}
use Rattle.design_core.specs.Shape.{WireOf}
use Rattle.design_core.proofs.Places.{sum_by-within}
use Rattle.design_core.proofs.design.Design.offset.Goals as goal

pub returns-clause-within : goal.returns-clause-within
returns-clause-within c = rw (← c.self.view_is) (λ x h.
    let wires = c.self.inside.wires.items in
    let there : c.args.wire < length c.self.inside.wires.items = rw (← c.self.view_is) at c.requires in
    let i = c.self.invariant in
    let at : c.index.result.now ≡ slice_index c.self.inside.offsets.items c.args.wire =
    get_or_read c.self.inside.offsets.items _ _ (omega (arith, there, i.one_each)) c.index.ensures 0 in
    omega (arith, at, i.placed c.args.wire there, sum_by-within (λ (x : WireOf). x.width) wires c.args.wire x h))
