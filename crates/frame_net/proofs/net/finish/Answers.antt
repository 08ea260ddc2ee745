use Rattle.std.proofs.Common.{◌∙◌, ◌+◌, ◌-◌, ap, arith, false, length, refl, subst, sym, true}
use Rattle.cnf_form.specs.Cnf.{LitOf}
use Rattle.gate_graph.specs.Circuit.{Means}
use Rattle.model_core.proofs.Runs.{next_states_wide}
use Rattle.frame_gates.specs.Frames.{cycle_of}
use Rattle.frame_net.proofs.Netting.{has_each, inputs_fit, is_net, is_net_of, all_vars}
use Rattle.frame_net.proofs.net.finish.Goals as goal

pub overflow_cast-inputs : goal.overflow_cast-inputs
overflow_cast-inputs c =
    let fit = inputs_fit c.args.model.now c.args.cycle.gates c.promise.ensures.gates c.promise.ensures.kept c.promise.ensures.room c.promise.ensures.rising c.requires.inputs in
    let limit = c.promise.ensures.gates.limit in
    let i = ap length c.inputs.ensures in
    omega arith

pub overflow_cast-first : goal.overflow_cast-first
overflow_cast-first c =
    let fit = inputs_fit c.args.model.now c.args.cycle.gates c.promise.ensures.gates c.promise.ensures.kept c.promise.ensures.room c.promise.ensures.rising c.requires.inputs in
    let limit = c.promise.ensures.gates.limit in
    let s = ap length c.states.ensures in
    omega arith

pub overflow_add-first : goal.overflow_add-first
overflow_add-first c =
    let fit = inputs_fit c.args.model.now c.args.cycle.gates c.promise.ensures.gates c.promise.ensures.kept c.promise.ensures.room c.promise.ensures.rising c.requires.inputs in
    let limit = c.promise.ensures.gates.limit in
    let s = ap length c.states.ensures in
    omega arith

pub overflow_add-first-2 : goal.overflow_add-first-2
overflow_add-first-2 c =
    let fit = inputs_fit c.args.model.now c.args.cycle.gates c.promise.ensures.gates c.promise.ensures.kept c.promise.ensures.room c.promise.ensures.rising c.requires.inputs in
    let limit = c.promise.ensures.gates.limit in
    let s = ap length c.states.ensures in
    let i = ap length c.inputs.ensures in
    omega arith

pub overflow_sub-count : goal.overflow_sub-count
overflow_sub-count c =
    let fit = inputs_fit c.args.model.now c.args.cycle.gates c.promise.ensures.gates c.promise.ensures.kept c.promise.ensures.room c.promise.ensures.rising c.requires.inputs in
    let s = ap length c.states.ensures in
    let i = ap length c.inputs.ensures in
    let v = c.vars.ensures in
    omega arith

pub states_of-requires : goal.states_of-requires
states_of-requires c =
    let wide = c.requires.takes.as_many (λ _. false) ∙ next_states_wide c.args.model.now c.size.ensures.model (cycle_of c.requires.table (λ _. false)) in
    rw c.as_slice.ensures.value (wide ∙ sym c.size.ensures.model.starts ∙ sym (ap length c.starts.ensures))

pub in_order-requires : goal.in_order-requires
in_order-requires c =
    let fit = inputs_fit c.args.model.now c.args.cycle.gates c.promise.ensures.gates c.promise.ensures.kept c.promise.ensures.room c.promise.ensures.rising c.requires.inputs in
    let s = ap length c.states.ensures in
    let i = ap length c.inputs.ensures in
    let v = c.vars.ensures in
    rw (c.as_slice-2.ensures.value, c.into_kept-kept.ensures)
    (has_each c.args.model.now c.args.cycle.gates c.promise.ensures.gates c.promise.ensures.kept c.promise.ensures.room c.promise.ensures.rising c.requires.inputs
    (2 + length c.states.result.now + length c.inputs.result.now) (c.vars.result + 1 - (2 + length c.states.result.now + length c.inputs.result.now)) (omega arith) (omega arith))

pub new-requires : goal.new-requires
new-requires c =
    let fit = inputs_fit c.args.model.now c.args.cycle.gates c.promise.ensures.gates c.promise.ensures.kept c.promise.ensures.room c.promise.ensures.rising c.requires.inputs in
    let s = ap length c.states.ensures in
    let i = ap length c.inputs.ensures in
    let v = c.vars.ensures in
    is_net c.args.model.now c.size.ensures.model c.args.cycle.gates c.promise.ensures.gates c.promise.ensures.kept c.promise.ensures.room c.promise.ensures.rising
    (subst (λ (l : LitOf). Means c.args.cycle.gates l (λ _. true)) c.constant.ensures.literal c.constant.ensures.means) c.args.cycle.next.items c.args.cycle.asserted c.args.cycle.assumed c.args.cycle.covers.items c.requires
    (record { states = c.in_ok-states.states.items; inputs = length c.inputs.result.now; gates = c.in_ok-gates.gates.items; asserted = c.args.cycle.asserted; assumed = c.args.cycle.assumed; covers = c.args.cycle.covers.items }) (c.in_ok-states.ensures.starts ∙ c.starts.ensures) (c.in_ok-states.ensures.next ∙ c.as_slice.ensures.value) (ap length c.inputs.ensures) refl refl refl
    (2 + length c.states.result.now + length c.inputs.result.now) (c.vars.result + 1 - (2 + length c.states.result.now + length c.inputs.result.now)) (omega arith) (omega arith)
    (rw (c.as_slice-2.ensures.value, c.into_kept-kept.ensures) at c.in_ok-gates.ensures)

pub returns-clause-net : goal.returns-clause-net
returns-clause-net c =
    let fit = inputs_fit c.args.model.now c.args.cycle.gates c.promise.ensures.gates c.promise.ensures.kept c.promise.ensures.room c.promise.ensures.rising c.requires.inputs in
    let s = ap length c.states.ensures in
    let i = ap length c.inputs.ensures in
    let v = c.vars.ensures in
    rw c.new.ensures
    (is_net_of c.args.model.now c.size.ensures.model c.args.cycle.gates c.promise.ensures.gates c.promise.ensures.kept c.promise.ensures.room c.promise.ensures.rising
    (subst (λ (l : LitOf). Means c.args.cycle.gates l (λ _. true)) c.constant.ensures.literal c.constant.ensures.means) c.args.cycle.next.items c.args.cycle.asserted c.args.cycle.assumed c.args.cycle.covers.items c.requires
    (record { states = c.in_ok-states.states.items; inputs = length c.inputs.result.now; gates = c.in_ok-gates.gates.items; asserted = c.args.cycle.asserted; assumed = c.args.cycle.assumed; covers = c.args.cycle.covers.items }) (c.in_ok-states.ensures.starts ∙ c.starts.ensures) (c.in_ok-states.ensures.next ∙ c.as_slice.ensures.value) (ap length c.inputs.ensures) refl refl refl
    (2 + length c.states.result.now + length c.inputs.result.now) (c.vars.result + 1 - (2 + length c.states.result.now + length c.inputs.result.now)) (omega arith) (omega arith)
    (rw (c.as_slice-2.ensures.value, c.into_kept-kept.ensures) at c.in_ok-gates.ensures))

pub returns-clause-size : goal.returns-clause-size
returns-clause-size c =
    let fit = inputs_fit c.args.model.now c.args.cycle.gates c.promise.ensures.gates c.promise.ensures.kept c.promise.ensures.room c.promise.ensures.rising c.requires.inputs in
    let s = ap length c.states.ensures in
    let i = ap length c.inputs.ensures in
    let v = c.vars.ensures in
    rw c.new.ensures
    (all_vars c.args.model.now c.size.ensures.model c.args.cycle.gates c.promise.ensures.gates c.promise.ensures.kept c.promise.ensures.room c.promise.ensures.rising
    (subst (λ (l : LitOf). Means c.args.cycle.gates l (λ _. true)) c.constant.ensures.literal c.constant.ensures.means) c.args.cycle.next.items c.args.cycle.asserted c.args.cycle.assumed c.args.cycle.covers.items c.requires
    (record { states = c.in_ok-states.states.items; inputs = length c.inputs.result.now; gates = c.in_ok-gates.gates.items; asserted = c.args.cycle.asserted; assumed = c.args.cycle.assumed; covers = c.args.cycle.covers.items }) (c.in_ok-states.ensures.starts ∙ c.starts.ensures) (c.in_ok-states.ensures.next ∙ c.as_slice.ensures.value) (ap length c.inputs.ensures) refl refl refl
    (2 + length c.states.result.now + length c.inputs.result.now) (c.vars.result + 1 - (2 + length c.states.result.now + length c.inputs.result.now)) (omega arith) (omega arith)
    (rw (c.as_slice-2.ensures.value, c.into_kept-kept.ensures) at c.in_ok-gates.ensures))
