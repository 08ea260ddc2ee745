use Rattle.std.proofs.Common.{◌*◌, List, ap, arith, length, subst}
use Rattle.cnf_form.specs.Cnf.{LitOf}
use Rattle.std.specs.List.{sum_by}
use Rattle.model_core.specs.Meaning.{Assumed}
use Rattle.frame_gates.specs.Costs.{next_gates, node_gates}
use Rattle.frame_gates.specs.Frames.{Tells, cycle_of}
use Rattle.frame_net.specs.Making.{TellCovers, TellsAsserted}
use Rattle.frame_net.proofs.Cycling.{cycle_made, free_long, free_within}
use Rattle.frame_net.proofs.net.cycle_of.Goals as goal

pub over-requires-clause-bits : goal.over-requires-clause-bits
over-requires-clause-bits c =
    rw c.as_slice.ensures.value
    (free_within c.in_ok-gates.gates c.free_row.new.gates c.free_row-2.new.gates (length c.states.result.now) c.in_ok-states.states.items c.in_ok-states.ensures.row c.in_ok-inputs.ensures.row.continues.vars)

pub over-requires-clause-inputs : goal.over-requires-clause-inputs
over-requires-clause-inputs c =
    rw c.as_slice-2.ensures.value (free_within c.free_row.new.gates c.free_row-2.new.gates c.free_row-2.new.gates (length c.inputs.result.now) c.in_ok-inputs.inputs.items c.in_ok-inputs.ensures.row (omega arith))

pub over-requires-clause-as_many_bits : goal.over-requires-clause-as_many_bits
over-requires-clause-as_many_bits c =
    rw (c.as_slice.ensures.value, ← c.states.ensures) (free_long c.in_ok-gates.gates c.free_row.new.gates (length c.states.result.now) c.in_ok-states.states.items c.in_ok-states.ensures.row)

pub over-requires-clause-as_many_inputs : goal.over-requires-clause-as_many_inputs
over-requires-clause-as_many_inputs c =
    rw (c.as_slice-2.ensures.value, ← c.inputs.ensures) (free_long c.free_row.new.gates c.free_row-2.new.gates (length c.inputs.result.now) c.in_ok-inputs.inputs.items c.in_ok-inputs.ensures.row)

pub returns-clause-cycle : goal.returns-clause-cycle
returns-clause-cycle c =
    let frame = rw (c.as_slice.ensures.value, c.as_slice-2.ensures.value) at c.in_ok-frame.ensures.frame in
    let same = c.next_states.ensures.same in
    let broken = subst (λ (t : List LitOf). TellsAsserted c.args.model.now c.asserted_of.new.gates t c.in_ok-asserted.asserted) same c.in_ok-asserted.ensures.asserted in
    let assumed = subst (λ (t : List LitOf). Tells c.assumed.new.gates (λ x. Assumed c.args.model.now (cycle_of t x)) c.in_ok-assumed.assumed) same c.in_ok-assumed.ensures.assumed in
    let covers = subst (λ (t : List LitOf). TellCovers c.args.model.now c.covers_of.new.gates t (length c.args.model.now.covers) c.in_ok-covers.covers.items) same c.in_ok-covers.ensures.covers in
    cycle_made c.args.model.now c.in_ok-gates.gates c.free_row.new.gates c.free_row-2.new.gates c.over.new.gates c.next_states.new.gates c.asserted_of.new.gates c.assumed.new.gates c.covers_of.new.gates
    (length c.states.result.now) (length c.inputs.result.now) c.in_ok-states.states.items c.in_ok-inputs.inputs.items c.in_ok-frame.frame c.in_ok-next.next.items c.in_ok-asserted.asserted c.in_ok-assumed.assumed c.in_ok-covers.covers.items
    c.in_ok-gates.ensures.vars c.in_ok-gates.ensures.inputs (ap length c.states.ensures) (ap length c.inputs.ensures) c.in_ok-states.ensures.row c.in_ok-inputs.ensures.row
    (sum_by node_gates c.args.model.now.nodes) (next_gates c.args.model.now) (2 * length c.args.model.now.asserts) (2 * length c.args.model.now.assumes) (length c.args.model.now.covers)
    c.in_ok-frame.ensures.builds c.next_states.ensures.builds c.asserted_of.ensures.builds c.assumed.ensures.builds c.covers_of.ensures.builds
    frame c.in_ok-next.ensures.row broken assumed covers
