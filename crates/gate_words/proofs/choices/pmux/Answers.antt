use Rattle.std.proofs.Common.{◌≡◌, ◌+◌, ◌-◌, ◌*◌, length, subst, ℕ, arith}
use Rattle.gate_words.specs.Words.{IsChosen}
use Rattle.gate_words.proofs.Choosing.{at_place, Chosen-next, Chosen-all, place_below}
use Rattle.gate_words.proofs.choices.pmux.Goals as goal

pub loop-step-preserved : goal.loop-step-preserved
loop-step-preserved c =
    let lt = c.loop-step-test.true in
    let k : ℕ = length c.args.s.now - (c.loop-step.step + 1) in
    let more : length c.args.s.now - c.loop-step.step ≡ k + 1 = omega arith in
    let place : c.loop-step.from - length c.args.a.now ≡ length c.args.a.now * k = place_below (length c.args.a.now) (length c.args.s.now - c.loop-step.step) k c.loop-step.from c.loop-step.invariant.place more in
    let old = subst (λ (i : ℕ). IsChosen c.args.gates.now c.loop-step.gates c.args.a.now c.args.b.now c.args.s.now c.loop-step.step i c.loop-step.word.items) more c.loop-step.invariant.chosen in
    let row = rw c.deref.ensures.value at c.in_ok-word-2.ensures.row in
    let builds = rw c.deref.ensures.value at c.chosen.ensures.builds in
    record {
      place = place;
      chosen = Chosen-next c.args.gates.now c.loop-step.gates c.chosen.new.gates c.args.a.now c.args.b.now c.args.s.now c.loop-step.step k _ c.loop-step.word.items c.in_ok-word-2.word.items c.index-s-s.result old (omega arith) (at_place c.args.s.now (length c.args.s.now - 1 - c.loop-step.step) k c.index-s-s.result (let lt = c.loop-step-test.true in omega arith) c.index-s-s.is) place c.requires.width builds row;
    }

pub returns-clause-row : goal.returns-clause-row
returns-clause-row c = Chosen-all c.args.gates.now c.loop-step.gates c.args.a.now c.args.b.now c.args.s.now c.loop-step.word.items c.loop-step.step _ c.loop-step.invariant.chosen (let h = c.loop-step-test.false in omega arith) c.requires.width
