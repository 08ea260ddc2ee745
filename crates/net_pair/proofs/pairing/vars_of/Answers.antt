use Rattle.std.proofs.Common.{◌≡◌, ◌+◌, ◌*◌, ℕ, List, length, max, ap, ◌∙◌, arith}
use Rattle.bit_net.specs.Net.{vars}
use Rattle.bit_net.specs.declared.node.State.{State}
use Rattle.net_pair.specs.Pairing.{both, digits}
use Rattle.net_pair.proofs.Laying.{digits_few}
use Rattle.net_pair.proofs.Placing.{both_vars}
use Rattle.net_pair.proofs.pairing.vars_of.Goals as goal

pub overflow_add-states : goal.overflow_add-states
overflow_add-states c =
    let s = ap length c.states-all.ensures in
    let n = c.digit_count-count.ensures ∙ ap (λ (ss : List State). length (digits 0 ss)) c.states-all.ensures in
    let d = digits_few 0 c.args.net.now.states in
    let l = c.promise.ensures.limit in
    omega arith

pub overflow_add-vars : goal.overflow_add-vars
overflow_add-vars c =
    let s = ap length c.states-all.ensures in
    let n = c.digit_count-count.ensures ∙ ap (λ (ss : List State). length (digits 0 ss)) c.states-all.ensures in
    let d = digits_few 0 c.args.net.now.states in
    let l = c.promise.ensures.limit in
    omega arith

pub overflow_add-vars-2 : goal.overflow_add-vars-2
overflow_add-vars-2 c =
    let s = ap length c.states-all.ensures in
    let n = c.digit_count-count.ensures ∙ ap (λ (ss : List State). length (digits 0 ss)) c.states-all.ensures in
    let d = digits_few 0 c.args.net.now.states in
    let l = c.promise.ensures.limit in
    let g = ap length c.gates.ensures in
    let i = c.inputs.ensures in
    let f = c.from.ensures in
    omega arith

pub returns : goal.returns
returns c =
    let s = ap length c.states-all.ensures in
    let n = c.digit_count-count.ensures ∙ ap (λ (ss : List State). length (digits 0 ss)) c.states-all.ensures in
    let d = digits_few 0 c.args.net.now.states in
    let l = c.promise.ensures.limit in
    let g = ap length c.gates.ensures in
    let i = c.inputs.ensures in
    let f = c.from.ensures in
    let b = both_vars c.args.net.now in
    let z : 1 + (length c.states-all.result.now + c.digit_count-count.result) + 2 * (c.from.result + length c.gates.result.now) ≡ vars (both c.args.net.now) = omega arith in
    c.max.ensures ∙ ap (λ (v : ℕ). max v (length c.args.bits.now)) z
