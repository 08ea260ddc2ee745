use Rattle.std.proofs.Common.{◌≡◌, ◌+◌, ◌*◌, ℕ, suc, true, All, List, length, sym, ap, ◌∙◌, subst, arith}
use Rattle.cnf_form.specs.Cnf.{LitOf, LitWithin}
use Rattle.gate_graph.specs.Kept.{lit_of}
use Rattle.net_pair.specs.Laying.{with_gates, with_inputs}
use Rattle.net_pair.specs.Pairing.{all_of, before_start, chain, digits}
use Rattle.net_pair.proofs.Making.{first_vars, inputs_vars, second_vars, stages_formula}
use Rattle.net_pair.proofs.Placing.{both_vars, digits_within}
use Rattle.net_pair.proofs.pairing.gates_of.Goals as goal

pub push_cycle-requires-clause-vars : goal.push_cycle-requires-clause-vars
push_cycle-requires-clause-vars c =
    let made : c.push_inputs.new.circuit ≡ with_inputs c.in_ok-circuit.circuit (length c.args.net.now.states + 2 * c.args.net.now.inputs) =
    c.in_ok-push_inputs.ensures ∙ ap (with_inputs c.in_ok-circuit.circuit) (let l = ap length c.states.ensures in let i = c.inputs.ensures in let z : length c.states.result.now + 2 * c.inputs.result ≡ length c.args.net.now.states + 2 * c.args.net.now.inputs = omega arith in z) in
    inputs_vars c.args.net.now c.in_ok-circuit.circuit c.push_inputs.new.circuit c.in_ok-circuit.ensures made

pub push_cycle-requires-2-clause-vars : goal.push_cycle-requires-2-clause-vars
push_cycle-requires-2-clause-vars c =
    let made : c.push_inputs.new.circuit ≡ with_inputs c.in_ok-circuit.circuit (length c.args.net.now.states + 2 * c.args.net.now.inputs) =
    c.in_ok-push_inputs.ensures ∙ ap (with_inputs c.in_ok-circuit.circuit) (let l = ap length c.states.ensures in let i = c.inputs.ensures in let z : length c.states.result.now + 2 * c.inputs.result ≡ length c.args.net.now.states + 2 * c.args.net.now.inputs = omega arith in z) in
    let before = inputs_vars c.args.net.now c.in_ok-circuit.circuit c.push_inputs.new.circuit c.in_ok-circuit.ensures made in
    first_vars c.args.net.now c.push_inputs.new.circuit c.push_cycle.new.circuit before c.in_ok-push_cycle.ensures

pub push_all-requires-clause-room : goal.push_all-requires-clause-room
push_all-requires-clause-room c =
    let made : c.push_inputs.new.circuit ≡ with_inputs c.in_ok-circuit.circuit (length c.args.net.now.states + 2 * c.args.net.now.inputs) =
    c.in_ok-push_inputs.ensures ∙ ap (with_inputs c.in_ok-circuit.circuit) (let l = ap length c.states.ensures in let i = c.inputs.ensures in let z : length c.states.result.now + 2 * c.inputs.result ≡ length c.args.net.now.states + 2 * c.args.net.now.inputs = omega arith in z) in
    let before = inputs_vars c.args.net.now c.in_ok-circuit.circuit c.push_inputs.new.circuit c.in_ok-circuit.ensures made in
    let mid = first_vars c.args.net.now c.push_inputs.new.circuit c.push_cycle.new.circuit before c.in_ok-push_cycle.ensures in
    let late = second_vars c.args.net.now c.push_cycle.new.circuit c.push_cycle-2.new.circuit mid c.in_ok-push_cycle-2.ensures in
    let s = ap length c.requires.starts in
    let b = both_vars c.args.net.now in
    let r = c.requires.room in
    omega arith

pub push_all-requires-clause-lits : goal.push_all-requires-clause-lits
push_all-requires-clause-lits c =
    let made : c.push_inputs.new.circuit ≡ with_inputs c.in_ok-circuit.circuit (length c.args.net.now.states + 2 * c.args.net.now.inputs) =
    c.in_ok-push_inputs.ensures ∙ ap (with_inputs c.in_ok-circuit.circuit) (let l = ap length c.states.ensures in let i = c.inputs.ensures in let z : length c.states.result.now + 2 * c.inputs.result ≡ length c.args.net.now.states + 2 * c.args.net.now.inputs = omega arith in z) in
    let before = inputs_vars c.args.net.now c.in_ok-circuit.circuit c.push_inputs.new.circuit c.in_ok-circuit.ensures made in
    let mid = first_vars c.args.net.now c.push_inputs.new.circuit c.push_cycle.new.circuit before c.in_ok-push_cycle.ensures in
    let late = second_vars c.args.net.now c.push_cycle.new.circuit c.push_cycle-2.new.circuit mid c.in_ok-push_cycle-2.ensures in
    subst (λ (ls : List LitOf). All (LitWithin c.push_cycle-2.new.circuit.formula.vars) ls) (sym c.requires.starts) (digits_within 0 c.args.net.now.states c.push_cycle-2.new.circuit.formula.vars (omega arith))

pub returns-clause-formula : goal.returns-clause-formula
returns-clause-formula c =
    let made : c.push_inputs.new.circuit ≡ with_inputs c.in_ok-circuit.circuit (length c.args.net.now.states + 2 * c.args.net.now.inputs) =
    c.in_ok-push_inputs.ensures ∙ ap (with_inputs c.in_ok-circuit.circuit) (let l = ap length c.states.ensures in let i = c.inputs.ensures in let z : length c.states.result.now + 2 * c.inputs.result ≡ length c.args.net.now.states + 2 * c.args.net.now.inputs = omega arith in z) in
    c.finish.ensures
    ∙ stages_formula c.args.net.now c.in_ok-circuit.circuit c.push_inputs.new.circuit c.push_cycle.new.circuit c.push_cycle-2.new.circuit c.push_all.new.circuit
    (record { begins = c.in_ok-circuit.ensures; inputs = made; first = c.in_ok-push_cycle.ensures; second = c.in_ok-push_cycle-2.ensures })
    (c.in_ok-start.ensures.gates ∙ ap (λ (ls : List LitOf). with_gates c.push_cycle-2.new.circuit (chain (c.push_cycle-2.new.circuit.formula.vars + 1) (lit_of 1 true) ls)) c.requires.starts)

pub returns-clause-start : goal.returns-clause-start
returns-clause-start c =
    let made : c.push_inputs.new.circuit ≡ with_inputs c.in_ok-circuit.circuit (length c.args.net.now.states + 2 * c.args.net.now.inputs) =
    c.in_ok-push_inputs.ensures ∙ ap (with_inputs c.in_ok-circuit.circuit) (let l = ap length c.states.ensures in let i = c.inputs.ensures in let z : length c.states.result.now + 2 * c.inputs.result ≡ length c.args.net.now.states + 2 * c.args.net.now.inputs = omega arith in z) in
    let before = inputs_vars c.args.net.now c.in_ok-circuit.circuit c.push_inputs.new.circuit c.in_ok-circuit.ensures made in
    let mid = first_vars c.args.net.now c.push_inputs.new.circuit c.push_cycle.new.circuit before c.in_ok-push_cycle.ensures in
    let late = second_vars c.args.net.now c.push_cycle.new.circuit c.push_cycle-2.new.circuit mid c.in_ok-push_cycle-2.ensures in
    c.in_ok-start.ensures.literal ∙ ap (λ (ls : List LitOf). all_of (c.push_cycle-2.new.circuit.formula.vars + 1) (lit_of 1 true) ls) c.requires.starts
    ∙ ap (λ (v : ℕ). all_of v (lit_of 1 true) (digits 0 c.args.net.now.states)) (let z : c.push_cycle-2.new.circuit.formula.vars + 1 ≡ suc (before_start c.args.net.now) = omega arith in z)
