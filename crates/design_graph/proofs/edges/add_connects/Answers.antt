use Rattle.std.proofs.Common.{◌≡◌, ◌≤◌, Some, length, arith}
use Rattle.std.specs.Prelude.{slice_get}
use Rattle.std.proofs.lemmas.List.Elements.{All-contains}
use Rattle.design_core.specs.Shape.{IsConnectOf}
use Rattle.design_core.proofs.Lists.{Contains-from_place, item_at}
use Rattle.design_graph.proofs.EdgeSteps.{IsSidePair, Sides-end, Upto-start, Upto-next}
use Rattle.design_graph.proofs.edges.add_connects.Goals as goal
use Rattle.design_graph.proofs.edges.add_connects.Goals.{After-index-connects-place}

connect : (c : After-index-connects-place) → slice_get c.args.design.now.connects c.loop-place.place ≡ Some c.index-connects-place.result
connect c = rw c.connects-connects.ensures.connects at (item_at c.connects-connects.result.now c.loop-place.place c.index-connects-place.result c.index-connects-place.is c.loop-place-test.true)

pub loop-place-init : goal.loop-place-init
loop-place-init c = Upto-start c.args.design.now.connects (λ k j p q. IsSidePair c.args.design.now c.args.up j p q) c.args.graph.now

pub add_connect-requires-clause-connect : goal.add_connect-requires-clause-connect
add_connect-requires-clause-connect c =
    let x = (goal.at.add_connect-requires-clause-connect c).After-index-connects-place in
    All-contains (IsConnectOf c.args.design.now.wires c.args.design.now.free) c.args.design.now.connects c.index-connects-place.result c.connects-connects.ensures.design.connects
    (Contains-from_place c.args.design.now.connects c.loop-place.place c.index-connects-place.result (connect x))

pub add_connect-requires-clause-nodes : goal.add_connect-requires-clause-nodes
add_connect-requires-clause-nodes c = omega (arith, c.requires, c.loop-place.invariant.size)

pub loop-place-preserved : goal.loop-place-preserved
loop-place-preserved c =
    let x = (goal.at.loop-place-preserved c).After-index-connects-place in
    Upto-next c.args.design.now.connects (λ k j p q. IsSidePair c.args.design.now c.args.up j p q) c.args.graph.now c.loop-place.graph c.add_connect.new.graph c.loop-place.place
    c.index-connects-place.result (connect x) c.loop-place.invariant c.in_ok-add_connect.ensures

pub returns : goal.returns
returns c =
    let most : length c.args.design.now.connects ≤ c.loop-place.place = rw c.connects-connects.ensures.connects at c.loop-place-test.false in
    Sides-end c.args.design.now c.args.up c.args.design.now.connects c.args.graph.now c.loop-place.graph c.loop-place.place most c.loop-place.invariant
