use Rattle.std.proofs.Common.{length, arith}
use Rattle.design_lower.proofs.Passing.{passing-end, passing-waiting, room-muxes}
use Rattle.design_lower.proofs.lowering.lower_all.Goals as goal

pub returns : goal.returns
returns c =
    let p = c.in_ok-pass_items.ensures.passing in
    passing-end c.args.design.now c.pass_items.new.low c.pass_items.new.muxes.items p.0 p.1 c.in_ok-pass_items.ensures.connects c.add_cells.new.low c.in_ok-add_cells.ensures

pub add_cells-requires-clause-cells : goal.add_cells-requires-clause-cells
add_cells-requires-clause-cells c =
    let p = c.in_ok-pass_items.ensures.passing in
    passing-waiting c.args.design.now c.pass_items.new.low c.pass_items.new.muxes.items p.0 p.1

pub add_cells-requires-clause-few : goal.add_cells-requires-clause-few
add_cells-requires-clause-few c =
    let p = c.in_ok-pass_items.ensures.passing in
    room-muxes c.args.design.now c.requires.shape c.requires.room (length c.args.design.now.cells) c.pass_items.new.low c.pass_items.new.muxes.items p.0 p.1 (omega arith)
