use Rattle.std.proofs.Common.{◌≡◌, ℕ, ◌+◌, ◌-◌, ◌*◌, length, subst, arith}
use Rattle.gate_rows.proofs.Building.{Builds-trans}
use Rattle.gate_words.specs.Division.{IsDivided}
use Rattle.gate_words.proofs.Choosing.{at_place}
use Rattle.gate_words.proofs.Quotients.{Divided-next, steps_fit}
use Rattle.gate_words.proofs.division.all_places.Goals as goal

pub returns-in_err-push-clause-builds : goal.returns-in_err-push-clause-builds
returns-in_err-push-clause-builds c = let lt = c.loop-step-test.true in
    Builds-trans c.args.gates.now c.loop-step.gates c.place.new.gates ((4 * length c.args.b.now + 1) * c.loop-step.step) (4 * length c.args.b.now + 1) _ c.loop-step.invariant.builds c.place.ensures.builds (steps_fit (4 * length c.args.b.now + 1) c.loop-step.step (length c.args.a.now) lt)

pub loop-step-preserved : goal.loop-step-preserved
loop-step-preserved c =
    let lt = c.loop-step-test.true in
    let k : ℕ = length c.args.a.now - (c.loop-step.step + 1) in
    let more : length c.args.a.now - c.loop-step.step ≡ k + 1 = omega arith in
    let old = subst (λ (i : ℕ). IsDivided c.args.gates.now c.loop-step.gates c.args.a.now c.args.b.now c.loop-step.step i c.loop-step.bits.items c.loop-step.rest.items) more c.loop-step.invariant in
    let place = rw c.deref.ensures.value at c.in_ok-bit.ensures.place in
    rw c.in_ok-push.ensures
    (Divided-next c.args.gates.now c.loop-step.gates c.place.new.gates c.args.a.now c.args.b.now c.args.zeros.now c.loop-step.bits.items c.loop-step.rest.items c.in_ok-bit.less.items c.loop-step.step k c.index-a-k.result c.index-zeros-k.result c.in_ok-bit.bit c.requires.as_many (omega arith) c.requires.zeros old
    (at_place c.args.a.now (length c.args.a.now - 1 - c.loop-step.step) k c.index-a-k.result (omega arith) c.index-a-k.is)
    (at_place c.args.zeros.now (length c.args.a.now - 1 - c.loop-step.step) k c.index-zeros-k.result (omega arith) c.index-zeros-k.is) place)
