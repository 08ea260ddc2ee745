use Rattle.std.proofs.Common.{◌+◌, ℕ, length, take, sym, ap, ◌∙◌, arith}
use Rattle.std.proofs.lemmas.List.{length-take}
use Rattle.net_pair.specs.Pairing.{digit_of}
use Rattle.net_pair.proofs.Laying.{count_step, digits_few}
use Rattle.net_pair.proofs.cycles.digit_count.Goals as goal

pub counted-count-requires : goal.counted-count-requires
counted-count-requires c =
    let i = c.loop-state.invariant in
    let d = digits_few 0 (take c.loop-state.state-index c.args.states.now) in
    let l = length-take c.loop-state.state-index c.args.states.now in
    let t = c.loop-state-test.true in
    let r = c.requires in
    omega arith

pub loop-state-preserved : goal.loop-state-preserved
loop-state-preserved c =
    c.counted-count.ensures ∙ ap (λ (n : ℕ). n + length (digit_of 0 c.state-item.result.start)) c.loop-state.invariant
    ∙ sym (count_step c.args.states.now c.loop-state.state-index c.state-item.result c.loop-state-test.true c.state-item.is)
