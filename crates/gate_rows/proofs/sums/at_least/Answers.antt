use Rattle.std.proofs.Common.{◌≡◌, ◌*◌, length, arith}
use Rattle.gate_rows.proofs.Comparing.{AtLeast-none, AtLeast-next}
use Rattle.gate_rows.proofs.Building.{Builds-trans, Builds-more, within_at}
use Rattle.gate_rows.proofs.sums.at_least.Goals as goal

pub loop-i-init : goal.loop-i-init
loop-i-init c = AtLeast-none c.args.gates.now c.args.a.now c.args.b.now c.constant-lit.result c.constant-lit.ensures.within c.constant-lit.ensures.means

pub make-requires : goal.make-requires
make-requires c =
    let w = within_at c.args.gates.now.formula.vars c.loop-i.gates.formula.vars c.args.b.now c.loop-i.i c.index-b-i.result c.loop-i.invariant.builds.continues.vars c.requires.b (let e = c.requires.as_many in let h = c.loop-i-test.true in omega arith) c.index-b-i.is in (
      within_at c.args.gates.now.formula.vars c.loop-i.gates.formula.vars c.args.a.now c.loop-i.i c.index-a-i.result c.loop-i.invariant.builds.continues.vars c.requires.a c.loop-i-test.true c.index-a-i.is,
      (rw c.negate.ensures w, (c.loop-i.invariant.within, tt)),
    )

pub loop-i-preserved : goal.loop-i-preserved
loop-i-preserved c =
    let gate = rw c.negate.ensures at c.in_ok-lit.ensures.gate in
    AtLeast-next c.args.gates.now c.loop-i.gates c.make.new.gates c.args.a.now c.args.b.now c.loop-i.i c.loop-i.lit c.index-a-i.result c.index-b-i.result c.in_ok-lit.lit c.loop-i.invariant c.loop-i-test.true c.requires.as_many c.index-a-i.is c.index-b-i.is gate

pub returns-in_err-lit-clause-builds : goal.returns-in_err-lit-clause-builds
returns-in_err-lit-clause-builds c = let h = c.loop-i-test.true in Builds-trans c.args.gates.now c.loop-i.gates c.make.new.gates c.loop-i.i 1 _ c.loop-i.invariant.builds c.make.ensures.builds (omega arith)

pub returns-clause-builds : goal.returns-clause-builds
returns-clause-builds c = Builds-more c.args.gates.now c.loop-i.gates c.loop-i.i _ c.loop-i.invariant.builds (omega arith)
