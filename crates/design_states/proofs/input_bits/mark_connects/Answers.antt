use Rattle.std.proofs.Common.{◌≡◌, ◌≤◌, Some, length}
use Rattle.std.specs.Prelude.{slice_get}
use Rattle.design_core.proofs.Lists.{item_at}
use Rattle.design_graph.specs.Edges.{IsPlaceIn}
use Rattle.design_graph.proofs.Declared.{connect-declared}
use Rattle.design_graph.proofs.MarkSets.{Before-next, Before-end}
use Rattle.design_states.specs.Bits.{IsConnectGiven}
use Rattle.design_states.proofs.input_bits.mark_connects.Goals as goal
use Rattle.design_states.proofs.input_bits.mark_connects.Goals.{After-index-connects-place}

connect : (c : After-index-connects-place) → slice_get c.args.design.now.connects c.loop-place.place ≡ Some c.index-connects-place.result
connect c = rw c.connects-connects.ensures.connects at (item_at c.connects-connects.result.now c.loop-place.place c.index-connects-place.result c.index-connects-place.is c.loop-place-test.true)

pub mark_bits-requires-clause-declared : goal.mark_bits-requires-clause-declared
mark_bits-requires-clause-declared c =
    let x = (goal.at.mark_bits-requires-clause-declared c).After-index-connects-place in
    rw c.left.ensures.bits (connect-declared c.args.design.now c.connects-connects.ensures.design c.loop-place.place c.index-connects-place.result (connect x)).0

pub loop-place-preserved : goal.loop-place-preserved
loop-place-preserved c =
    let x = (goal.at.loop-place-preserved c).After-index-connects-place in
    let d = c.args.design.now in
    let marked = rw c.left.ensures.bits at c.mark_bits.ensures in
    Before-next d.connects (λ k j p. IsPlaceIn d j.left p) c.args.marks.now c.loop-place.marks c.mark_bits.new.marks c.loop-place.place c.index-connects-place.result (connect x)
    c.loop-place.invariant marked

pub returns : goal.returns
returns c =
    let d = c.args.design.now in
    let most : length c.args.design.now.connects ≤ c.loop-place.place = rw c.connects-connects.ensures.connects at c.loop-place-test.false in
    Before-end d.connects (λ k j p. IsPlaceIn d j.left p) c.args.marks.now c.loop-place.marks c.loop-place.place (IsConnectGiven d) most c.loop-place.invariant
    (λ k j p at h. (k, j, at, h)) (λ p t. t)
