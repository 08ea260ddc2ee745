use Rattle.std.proofs.Common.{◌∙◌, subst, sym}
use Rattle.model_core.specs.Shape.{IsDistinct, states}
use Rattle.frame_gates.proofs.Filling.{places_below}
use Rattle.frame_gates.proofs.Over.{over_filled, over_table}
use Rattle.frame_gates.proofs.Places.{inputs_below, inputs_distinct, states_below, states_distinct}
use Rattle.frame_gates.proofs.frames.fill_over.Goals as goal

pub write_row-requires-clause-below : goal.write_row-requires-clause-below
write_row-requires-clause-below c = places_below c.args.model.now.size c.args.table.now c.states.result.now (states c.args.model.now) c.states.ensures (states_below c.args.model.now c.requires.model) c.requires.table.size

pub write_row-requires-clause-distinct : goal.write_row-requires-clause-distinct
write_row-requires-clause-distinct c = subst IsDistinct (sym c.states.ensures) (states_distinct c.args.model.now c.requires.model)

pub write_row-requires-2-clause-below : goal.write_row-requires-2-clause-below
write_row-requires-2-clause-below c =
    places_below c.args.model.now.size c.write_row.new.table c.inputs.result.now c.args.model.now.inputs c.inputs.ensures (inputs_below c.args.model.now c.requires.model) (c.write_row.ensures.size ∙ c.requires.table.size)

pub write_row-requires-2-clause-distinct : goal.write_row-requires-2-clause-distinct
write_row-requires-2-clause-distinct c = subst IsDistinct (sym c.inputs.ensures) (inputs_distinct c.args.model.now c.requires.model)

pub run_nodes-requires-clause-table : goal.run_nodes-requires-clause-table
run_nodes-requires-clause-table c =
    let first = rw c.states.ensures at c.write_row.ensures in
    let second = rw c.inputs.ensures at c.write_row-2.ensures in
    over_table c.args.model.now c.requires.model c.args.gates.now c.args.bits.now c.args.inputs.now c.args.table.now c.write_row.new.table c.write_row-2.new.table c.requires.as_many_bits c.requires.as_many_inputs first second c.requires.table
    c.requires.bits c.requires.inputs

pub returns-clause-filled : goal.returns-clause-filled
returns-clause-filled c =
    let first = rw c.states.ensures at c.write_row.ensures in
    let second = rw c.inputs.ensures at c.write_row-2.ensures in
    over_filled c.args.model.now c.requires.model c.args.gates.now c.args.bits.now c.args.inputs.now c.args.table.now c.write_row.new.table c.write_row-2.new.table c.requires.as_many_bits c.requires.as_many_inputs first second
    c.run_nodes.new.gates c.run_nodes.new.table c.in_ok-run_nodes.ensures.given
