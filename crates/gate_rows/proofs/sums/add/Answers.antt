use Rattle.std.proofs.Common.{◌≡◌, ◌*◌, length, arith}
use Rattle.gate_rows.specs.Sums.{IsSum}
use Rattle.gate_rows.proofs.Adding.{IsSum-none, IsSum-next}
use Rattle.gate_rows.proofs.Building.{Builds-trans, within_at, full_on}
use Rattle.gate_rows.proofs.sums.add.Goals as goal

pub adder-requires-clause-p : goal.adder-requires-clause-p
adder-requires-clause-p c = within_at c.args.gates.now.formula.vars c.loop-i.gates.formula.vars c.args.a.now c.loop-i.i c.index-a-i.result c.loop-i.invariant.builds.continues.vars c.requires.a c.loop-i-test.true c.index-a-i.is

pub adder-requires-clause-q : goal.adder-requires-clause-q
adder-requires-clause-q c = within_at c.args.gates.now.formula.vars c.loop-i.gates.formula.vars c.args.b.now c.loop-i.i c.index-b-i.result c.loop-i.invariant.builds.continues.vars c.requires.b (let e = c.requires.as_many in let h = c.loop-i-test.true in omega arith) c.index-b-i.is

pub adder-requires-clause-r : goal.adder-requires-clause-r
adder-requires-clause-r c = c.loop-i.invariant.over_within

pub returns-in_err-sum-clause-builds : goal.returns-in_err-sum-clause-builds
returns-in_err-sum-clause-builds c = let h = c.loop-i-test.true in Builds-trans c.args.gates.now c.loop-i.gates c.adder.new.gates (3 * c.loop-i.i) 3 _ c.loop-i.invariant.builds c.adder.ensures.builds (omega arith)

pub returns-in_err-push-clause-builds : goal.returns-in_err-push-clause-builds
returns-in_err-push-clause-builds c = let h = c.loop-i-test.true in Builds-trans c.args.gates.now c.loop-i.gates c.adder.new.gates (3 * c.loop-i.i) 3 _ c.loop-i.invariant.builds c.adder.ensures.builds (omega arith)

pub loop-i-preserved : goal.loop-i-preserved
loop-i-preserved c =
    rw c.in_ok-push.ensures
    (IsSum-next c.args.gates.now c.loop-i.gates c.adder.new.gates c.args.a.now c.args.b.now c.args.carry c.loop-i.i c.loop-i.row.items c.loop-i.over
    c.index-a-i.result c.index-b-i.result _ _ c.loop-i.invariant c.loop-i-test.true c.requires.as_many c.index-a-i.is c.index-b-i.is c.in_ok-sum.ensures.adder)
