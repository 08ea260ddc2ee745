use Rattle.std.proofs.Common.{◌≡◌, ◌<◌, ◌∙◌, List, length, ap, arith}
use Rattle.std.specs.Prelude.{string_bytes}
use Rattle.std.proofs.lemmas.Option.{slice_get_within}
use Rattle.design_core.specs.Shape.{WireOf}
use Rattle.design_core.proofs.Lists.{item_at}
use Rattle.design_graph.proofs.Counts.{wires-few}
use Rattle.design_graph.proofs.Looping.{loop-declared}
use Rattle.design_graph.specs.declared.item.Item.TheVariants.{Cell}
use Rattle.design_check.specs.Faults.{Whole, Wire}
use Rattle.design_check.specs.declared.fault.FaultKind.TheVariants.{Loop}
use Rattle.design_check.proofs.Placing.{loop-cell, loop-wire, loops-none}
use Rattle.design_check.proofs.Verdict.{clean-more, fault-first}
use Rattle.design_check.proofs.check.loop_fault.Goals as goal
use Rattle.design_check.proofs.check.loop_fault.Goals.{After-wires}

pub returns-in-Some : goal.returns-in-Some
returns-in-Some c =
    let d = c.args.design.now in
    let f = c.in-Some.ensures in
    let at = f.0.3 in
    let lt : c.in-Some.place < length c.cells.result.now = rw c.cells.ensures.cells (slice_get_within c.args.design.now.cells c.in-Some.place at.0 at.1) in
    let cell = rw c.cells.ensures.cells at (item_at c.cells.result.now c.in-Some.place c.index-cells-place.result c.index-cells-place.is lt) in
    fault-first d Loop (Whole (Cell c.in-Some.place)) (string_bytes c.in_ok-name.name) c.requires.clean (loop-cell d c.in-Some.place f.0 f.1)
    (c.index-cells-place.result, cell, c.in_ok-name.ensures.ok ∙ c.name.ensures)

below : (c : After-wires) → c.in-Some-first_wire_on_loop.wire < length c.wires.result.now
below c =
    let f = c.in-Some-first_wire_on_loop.ensures in
    let declared = loop-declared c.args.design.now c.wires.ensures.design c.in-Some-first_wire_on_loop.wire f.0.0 f.0.1 in
    rw c.wires.ensures.wires (slice_get_within c.args.design.now.wires c.in-Some-first_wire_on_loop.wire declared.0 declared.1)

pub offset_bounds-wires-wire : goal.offset_bounds-wires-wire
offset_bounds-wires-wire c =
    let wires : length c.wires.result.now ≡ length c.args.design.now.wires = ap (λ (l : List WireOf). length l) c.wires.ensures.wires in
    omega (arith, below (goal.at.offset_bounds-wires-wire c).After-wires, wires, wires-few c.args.design.now c.wires.ensures.design, c.wires.ensures.design.bits)

pub bounds-wires-wire : goal.bounds-wires-wire
bounds-wires-wire c = below (goal.at.bounds-wires-wire c).After-wires

pub returns-in_ok-name-in-Some-first_wire_on_loop : goal.returns-in_ok-name-in-Some-first_wire_on_loop
returns-in_ok-name-in-Some-first_wire_on_loop c =
    let d = c.args.design.now in
    let f = c.in-Some-first_wire_on_loop.ensures in
    let wire = rw c.wires.ensures.wires at
    (item_at c.wires.result.now c.in-Some-first_wire_on_loop.wire c.index-wires-wire.result c.index-wires-wire.is (below (goal.at.returns-in_ok-name-in-Some-first_wire_on_loop c).After-wires)) in
    fault-first d Loop (Wire c.in-Some-first_wire_on_loop.wire) (string_bytes c.in_ok-name-in-Some-first_wire_on_loop.name) c.requires.clean
    (loop-wire d c.in-Some-first_wire_on_loop.wire c.in_default.ensures f.0 f.1)
    (c.index-wires-wire.result, wire, c.in_ok-name-in-Some-first_wire_on_loop.ensures.ok ∙ c.name-in-Some-first_wire_on_loop.ensures)

pub returns-in-None : goal.returns-in-None
returns-in-None c = clean-more c.args.design.now Loop c.requires.clean (loops-none c.args.design.now c.in_default.ensures c.in-None.ensures)
