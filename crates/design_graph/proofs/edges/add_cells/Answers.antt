use Rattle.std.proofs.Common.{◌≡◌, ◌≤◌, ◌+◌, Some, length, arith}
use Rattle.std.specs.Prelude.{slice_get}
use Rattle.std.proofs.lemmas.Option.{slice_get_within}
use Rattle.std.proofs.lemmas.List.Elements.{All-contains}
use Rattle.design_core.specs.Shape.{IsCellOf}
use Rattle.design_core.specs.Places.{places}
use Rattle.design_graph.specs.Edges.{IsCellEdge, IsCellsEdge}
use Rattle.design_core.proofs.Lists.{Contains-from_place, item_at}
use Rattle.design_graph.proofs.EdgeSteps.{Upto-start, Upto-next, Upto-end}
use Rattle.design_graph.proofs.edges.add_cells.Goals as goal
use Rattle.design_graph.proofs.edges.add_cells.Goals.{After-index-cells-place}

cell : (c : After-index-cells-place) → slice_get c.args.design.now.cells c.loop-place.place ≡ Some c.index-cells-place.result
cell c = rw c.cells-cells.ensures.cells at (item_at c.cells-cells.result.now c.loop-place.place c.index-cells-place.result c.index-cells-place.is c.loop-place-test.true)

pub loop-place-init : goal.loop-place-init
loop-place-init c = Upto-start c.args.design.now.cells (λ k c' p q. IsCellEdge c.args.design.now c' (places c.args.design.now + k) p q) c.args.graph.now

pub add_cell-requires-clause-cell : goal.add_cell-requires-clause-cell
add_cell-requires-clause-cell c =
    let x = (goal.at.add_cell-requires-clause-cell c).After-index-cells-place in
    All-contains (IsCellOf c.args.design.now.wires c.args.design.now.free) c.args.design.now.cells c.index-cells-place.result c.cells-cells.ensures.design.cells
    (Contains-from_place c.args.design.now.cells c.loop-place.place c.index-cells-place.result (cell x))

pub add_cell-requires-clause-nodes : goal.add_cell-requires-clause-nodes
add_cell-requires-clause-nodes c = omega (arith, c.requires, c.loop-place.invariant.size)

pub add_cell-requires-clause-node : goal.add_cell-requires-clause-node
add_cell-requires-clause-node c =
    let x = (goal.at.add_cell-requires-clause-node c).After-index-cells-place in
    omega (arith, c.requires, c.loop-place.invariant.size, c.places-before.ensures.places, slice_get_within c.args.design.now.cells c.loop-place.place c.index-cells-place.result (cell x))

pub loop-place-preserved : goal.loop-place-preserved
loop-place-preserved c =
    let x = (goal.at.loop-place-preserved c).After-index-cells-place in
    let next = rw c.places-before.ensures.places at c.in_ok-add_cell.ensures in
    Upto-next c.args.design.now.cells (λ k c' p q. IsCellEdge c.args.design.now c' (places c.args.design.now + k) p q) c.args.graph.now c.loop-place.graph c.add_cell.new.graph c.loop-place.place
    c.index-cells-place.result (cell x) c.loop-place.invariant next

pub returns : goal.returns
returns c =
    let most : length c.args.design.now.cells ≤ c.loop-place.place = rw c.cells-cells.ensures.cells at c.loop-place-test.false in
    Upto-end c.args.design.now.cells (λ k c' p q. IsCellEdge c.args.design.now c' (places c.args.design.now + k) p q) c.args.graph.now c.loop-place.graph c.loop-place.place
    (IsCellsEdge c.args.design.now c.args.design.now.cells) most c.loop-place.invariant (λ k c' p q at h. (k, c', at, h)) (λ p q t. t)
