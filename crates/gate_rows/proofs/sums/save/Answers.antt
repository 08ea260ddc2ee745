use Rattle.std.proofs.Common.{◌≡◌, ◌*◌, length, arith}
use Rattle.gate_rows.proofs.Saving.{IsSave-none, IsSave-next}
use Rattle.gate_rows.proofs.Building.{Builds-trans, within_at}
use Rattle.gate_rows.proofs.sums.save.Goals as goal

pub loop-i-init : goal.loop-i-init
loop-i-init c = rw (c.new-row.ensures.items, c.new-carries.ensures.items) (IsSave-none c.args.gates.now c.args.a.now c.args.b.now c.args.c.now c.constant-over.result c.constant-over.ensures.within c.constant-over.ensures.means)

pub adder-requires-clause-p : goal.adder-requires-clause-p
adder-requires-clause-p c = within_at c.args.gates.now.formula.vars c.loop-i.gates.formula.vars c.args.a.now c.loop-i.i c.index-a-i.result c.loop-i.invariant.builds.continues.vars c.requires.a c.loop-i-test.true c.index-a-i.is

pub adder-requires-clause-q : goal.adder-requires-clause-q
adder-requires-clause-q c = within_at c.args.gates.now.formula.vars c.loop-i.gates.formula.vars c.args.b.now c.loop-i.i c.index-b-i.result c.loop-i.invariant.builds.continues.vars c.requires.b (let e = c.requires.b_long in let h = c.loop-i-test.true in omega arith) c.index-b-i.is

pub adder-requires-clause-r : goal.adder-requires-clause-r
adder-requires-clause-r c = within_at c.args.gates.now.formula.vars c.loop-i.gates.formula.vars c.args.c.now c.loop-i.i c.index-c-i.result c.loop-i.invariant.builds.continues.vars c.requires.c (let e = c.requires.c_long in let h = c.loop-i-test.true in omega arith) c.index-c-i.is

pub loop-i-preserved : goal.loop-i-preserved
loop-i-preserved c =
    rw (c.in_ok-push.ensures, c.in_ok-push-2.ensures)
    (IsSave-next c.args.gates.now c.loop-i.gates c.adder.new.gates c.args.a.now c.args.b.now c.args.c.now c.loop-i.i c.loop-i.row.items c.loop-i.carries.items c.loop-i.over
    c.index-a-i.result c.index-b-i.result c.index-c-i.result _ _ c.loop-i.invariant c.loop-i-test.true c.requires.b_long c.requires.c_long c.index-a-i.is c.index-b-i.is c.index-c-i.is
    c.in_ok-sum.ensures.adder)

pub returns-in_err-push-clause-builds : goal.returns-in_err-push-clause-builds
returns-in_err-push-clause-builds c = let h = c.loop-i-test.true in Builds-trans c.args.gates.now c.loop-i.gates c.adder.new.gates (3 * c.loop-i.i) 3 _ c.loop-i.invariant.builds c.adder.ensures.builds (omega arith)

pub returns-in_err-push-2-clause-builds : goal.returns-in_err-push-2-clause-builds
returns-in_err-push-2-clause-builds c = let h = c.loop-i-test.true in Builds-trans c.args.gates.now c.loop-i.gates c.adder.new.gates (3 * c.loop-i.i) 3 _ c.loop-i.invariant.builds c.adder.ensures.builds (omega arith)

pub returns-in_err-sum-clause-builds : goal.returns-in_err-sum-clause-builds
returns-in_err-sum-clause-builds c = let h = c.loop-i-test.true in Builds-trans c.args.gates.now c.loop-i.gates c.adder.new.gates (3 * c.loop-i.i) 3 _ c.loop-i.invariant.builds c.adder.ensures.builds (omega arith)
