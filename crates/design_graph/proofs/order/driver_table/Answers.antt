use Rattle.std.proofs.Common.{◌≡◌, ◌≤◌, ◌+◌, ◌∙◌, List, Option, None, length, drop, ap, arith}
use Rattle.design_core.specs.Shape.{CellOf}
use Rattle.design_core.specs.Places.{places}
use Rattle.design_graph.proofs.EdgeSteps.{written-back}
use Rattle.design_graph.proofs.order.driver_table.Goals as goal
use Rattle.std.proofs.lemmas.List.{length-replicate}
use Rattle.design_graph.specs.declared.driver.Driver.{Driver}
use Rattle.design_graph.proofs.Ordering.{IsTableUpto-none, IsDriverTable-end}

pub returns : goal.returns
returns c =
    let most : length c.args.design.now.connects ≤ c.loop-place.place = rw c.connects-place-end.ensures.connects at c.loop-place-test.false in
    let built = IsDriverTable-end c.args.design.now c.cells.ensures.design (length c.args.design.now.cells) c.loop-place.place c.loop-place.entries (omega arith) most c.loop-place.invariant in
    let cells : length c.cells.result.now ≡ length c.args.design.now.cells = ap (λ (l : List CellOf). length l) c.cells.ensures.cells in
    let size : length c.in_ok-table.table.items ≡ c.places.result + length c.cells.result.now = ap (λ (l : List (Option Driver)). length l) c.in_ok-table.ensures ∙ length-replicate (c.places.result + length c.cells.result.now) None in
    let whole : c.in_ok-table.table.len ≡ length c.loop-place.entries = omega (arith, c.in_ok-table.table.ok.0, size, cells, c.places.ensures.places, built.size) in
    rw (written-back c.in_ok-table.table.len c.loop-place.entries (drop (length c.loop-place.entries) c.in_ok-table.table.items) whole) built

pub loop-place-init : goal.loop-place-init
loop-place-init c =
    c.put_cells.ensures

pub put_cells-requires-clause-table : goal.put_cells-requires-clause-table
put_cells-requires-clause-table c =
    let cells : length c.cells.result.now ≡ length c.args.design.now.cells = ap (λ (l : List CellOf). length l) c.cells.ensures.cells in
    let n : c.places.result + length c.cells.result.now ≡ places c.args.design.now + length c.args.design.now.cells = omega (arith, cells, c.places.ensures.places) in
    rw (c.as_mut_slice-entries.ensures.value, c.in_ok-table.ensures) (IsTableUpto-none c.args.design.now (c.places.result + length c.cells.result.now) n)
