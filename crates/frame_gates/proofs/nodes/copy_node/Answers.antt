use Rattle.std.proofs.Common.{◌∙◌}
use Rattle.model_core.proofs.Lists.{at_place}
use Rattle.frame_gates.proofs.Noding.{a_read, copy_given, copy_long, y_once, y_read}
use Rattle.frame_gates.proofs.nodes.copy_node.Goals as goal

pub read_row-requires : goal.read_row-requires
read_row-requires c = a_read c.args.model.now c.requires.model c.args.node c.requires.node c.args.table.now c.requires.size c.a.result.now c.a.ensures

pub write_row-requires-clause-below : goal.write_row-requires-clause-below
write_row-requires-clause-below c = y_read c.args.model.now c.requires.model c.args.node c.requires.node c.args.table.now c.requires.size c.y.result.now c.y.ensures

pub write_row-requires-clause-distinct : goal.write_row-requires-clause-distinct
write_row-requires-clause-distinct c = y_once c.args.model.now c.requires.model c.args.node c.requires.node c.args.table.now c.requires.size c.y.result.now c.y.ensures

pub write_row-requires-clause-as_many : goal.write_row-requires-clause-as_many
write_row-requires-clause-as_many c =
    let n = at_place c.args.model.now.nodes c.args.node c.requires.node in
    copy_long c.args.model.now c.requires.model c.args.node n.0 c.args.table.now c.as_slice.result.now c.a.result.now c.y.result.now n.1 (c.requires.op n.0 n.1) (c.a.ensures n.0 n.1) (c.y.ensures n.0 n.1)
    (c.as_slice.ensures.value ∙ c.in_ok-read_row.ensures)

pub returns : goal.returns
returns c = λ g n within at.
    copy_given c.args.model.now c.requires.model c.args.node n c.args.table.now c.as_slice.result.now c.a.result.now c.y.result.now at (c.requires.op n at) (c.a.ensures n at) (c.y.ensures n at)
    (c.as_slice.ensures.value ∙ c.in_ok-read_row.ensures) g c.write_row.new.table
    (a_read c.args.model.now c.requires.model c.args.node c.requires.node c.args.table.now c.requires.size c.a.result.now c.a.ensures) c.write_row.ensures within
