use Rattle.std.proofs.Common.{◌≡◌, ◌∙◌, length, arith}
use Rattle.gate_rows.specs.Sums.{op_bit, op_lits}
use Rattle.gate_rows.proofs.Building.{Builds-more, Builds-trans, All-later, within_at, full_on, Chained-none, Chained-next, Chained-all}
use Rattle.gate_rows.proofs.bits.chain.Goals as goal

pub loop-i-init : goal.loop-i-init
loop-i-init c = Chained-none c.args.gates.now (op_bit c.args.op.now) c.args.start c.args.a.now c.requires.start

pub one-requires-clause-op : goal.one-requires-clause-op
one-requires-clause-op c = All-later c.args.gates.now.formula.vars c.loop-i.gates.formula.vars (op_lits c.args.op.now) c.loop-i.invariant.builds.continues.vars c.requires.op

pub one-requires-clause-a : goal.one-requires-clause-a
one-requires-clause-a c = c.loop-i.invariant.within

pub one-requires-clause-b : goal.one-requires-clause-b
one-requires-clause-b c = within_at c.args.gates.now.formula.vars c.loop-i.gates.formula.vars c.args.a.now c.loop-i.i c.index-a-i.result c.loop-i.invariant.builds.continues.vars c.requires.a c.loop-i-test.true c.index-a-i.is

pub loop-i-preserved : goal.loop-i-preserved
loop-i-preserved c =
    Chained-next c.args.gates.now c.loop-i.gates c.one.new.gates (op_bit c.args.op.now) c.args.start c.args.a.now c.loop-i.i c.loop-i.lit c.index-a-i.result c.in_ok-lit.lit c.loop-i.invariant c.loop-i-test.true c.index-a-i.is c.in_ok-lit.ensures.gate

pub returns-in_err-lit-clause-builds : goal.returns-in_err-lit-clause-builds
returns-in_err-lit-clause-builds c = let h = c.loop-i-test.true in Builds-trans c.args.gates.now c.loop-i.gates c.one.new.gates c.loop-i.i 1 _ c.loop-i.invariant.builds c.one.ensures.builds (omega arith)

pub returns-clause-bit : goal.returns-clause-bit
returns-clause-bit c = Chained-all c.args.gates.now c.loop-i.gates (op_bit c.args.op.now) c.args.start c.args.a.now c.loop-i.i c.loop-i.lit c.loop-i.invariant (omega arith)

pub returns-clause-builds : goal.returns-clause-builds
returns-clause-builds c = Builds-more c.args.gates.now c.loop-i.gates c.loop-i.i _ c.loop-i.invariant.builds (omega arith)
