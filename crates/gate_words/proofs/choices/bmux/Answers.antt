use Rattle.std.proofs.Common.{◌≡◌, ◌+◌, ◌-◌, ◌*◌, ◌/◌, ◌^◌, length, subst, ℕ, arith}
use Rattle.gate_words.specs.Words.{IsHalved}
use Rattle.gate_words.proofs.Choosing.{at_place, Halved-none, Halved-even, Halved-next, Halved-all}
use Rattle.gate_words.proofs.choices.bmux.Goals as goal

pub loop-step-init : goal.loop-step-init
loop-step-init c = Halved-none c.args.gates.now (length c.args.a.now / 2 ^ length c.args.s.now) c.args.a.now c.args.s.now c.in_ok-word.word.items (length c.args.s.now - 0) (omega arith) c.in_ok-word.ensures (subst (λ (i : ℕ). length c.args.a.now ≡ length c.args.a.now / 2 ^ length c.args.s.now * 2 ^ i) (omega arith) c.requires.width) c.requires.a

pub half-requires-clause-even : goal.half-requires-clause-even
half-requires-clause-even c =
    let k : ℕ = length c.args.s.now - (c.loop-step.step + 1) in
    let more : length c.args.s.now - c.loop-step.step ≡ k + 1 = let lt = c.loop-step-test.true in omega arith in
    let old = subst (λ (i : ℕ). IsHalved c.args.gates.now c.loop-step.gates (length c.args.a.now / 2 ^ length c.args.s.now) c.args.a.now c.args.s.now i c.loop-step.word.items) more c.loop-step.invariant in
    let (even, half) = Halved-even c.args.gates.now c.loop-step.gates (length c.args.a.now / 2 ^ length c.args.s.now) c.args.a.now c.args.s.now c.loop-step.word.items k old in
    rw c.deref.ensures.value even

pub loop-step-preserved : goal.loop-step-preserved
loop-step-preserved c =
    let k : ℕ = length c.args.s.now - (c.loop-step.step + 1) in
    let more : length c.args.s.now - c.loop-step.step ≡ k + 1 = let lt = c.loop-step-test.true in omega arith in
    let old = subst (λ (i : ℕ). IsHalved c.args.gates.now c.loop-step.gates (length c.args.a.now / 2 ^ length c.args.s.now) c.args.a.now c.args.s.now i c.loop-step.word.items) more c.loop-step.invariant in
    let row = rw c.deref.ensures.value at c.in_ok-word-2.ensures.row in
    let builds = rw c.deref.ensures.value at c.half.ensures.builds in
    Halved-next c.args.gates.now c.loop-step.gates c.half.new.gates (length c.args.a.now / 2 ^ length c.args.s.now) c.args.a.now c.args.s.now c.loop-step.word.items c.in_ok-word-2.word.items k c.index-s-s.result old (let lt = c.loop-step-test.true in omega arith) (at_place c.args.s.now (length c.args.s.now - 1 - c.loop-step.step) k c.index-s-s.result (let lt = c.loop-step-test.true in omega arith) c.index-s-s.is) builds row

pub returns-clause-row : goal.returns-clause-row
returns-clause-row c = Halved-all c.args.gates.now c.loop-step.gates (length c.args.a.now / 2 ^ length c.args.s.now) c.args.a.now c.args.s.now c.loop-step.word.items _ c.loop-step.invariant (let h = c.loop-step-test.false in omega arith) c.requires.width
