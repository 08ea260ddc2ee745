use Rattle.std.proofs.Common.{◌-◌, length, arith}
use Rattle.gate_rows.proofs.Building.{Builds-trans}
use Rattle.gate_words.proofs.Quotients.{Zeros-next, last_means}
use Rattle.gate_words.proofs.division.zeros_above.Goals as goal

pub returns-in_err-last-clause-builds : goal.returns-in_err-last-clause-builds
returns-in_err-last-clause-builds c = let lt = c.loop-step-test.true in Builds-trans c.args.gates.now c.loop-step.gates c.both.new.gates c.loop-step.step 1 _ c.loop-step.invariant.zeros.builds c.both.ensures.builds (omega arith)

pub returns-in_err-push-2-clause-builds : goal.returns-in_err-push-2-clause-builds
returns-in_err-push-2-clause-builds c = let lt = c.loop-step-test.true in Builds-trans c.args.gates.now c.loop-step.gates c.both.new.gates c.loop-step.step 1 _ c.loop-step.invariant.zeros.builds c.both.ensures.builds (omega arith)

pub loop-step-preserved : goal.loop-step-preserved
loop-step-preserved c =
    let lt = c.loop-step-test.true in
    let bit = rw c.negate.ensures at c.in_ok-last.ensures.bit in
    let means = last_means c.loop-step.gates c.both.new.gates c.args.b.now c.loop-step.step (length c.args.b.now - 1 - c.loop-step.step) c.loop-step.last c.in_ok-last.last c.index-b-b.result c.both.ensures.builds.continues (omega arith) c.index-b-b.is c.loop-step.invariant.means bit in
    rw c.in_ok-push-2.ensures
    (record {
      zeros = Zeros-next c.args.gates.now c.loop-step.gates c.both.new.gates c.args.b.now c.loop-step.zeros.items c.loop-step.step c.in_ok-last.last c.loop-step.invariant.zeros c.both.ensures.builds c.in_ok-last.ensures.bit.within means;
      within = c.in_ok-last.ensures.bit.within;
      means = means;
    })
