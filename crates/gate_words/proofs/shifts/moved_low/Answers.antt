use Rattle.std.proofs.Common.{arith}
use Rattle.gate_words.proofs.Moving.{Moved-none, Moved-next, Moved-all}
use Rattle.gate_words.proofs.shifts.moved_low.Goals as goal

pub loop-k-init : goal.loop-k-init
loop-k-init c = Moved-none c.args.gates.now c.args.way.now c.args.a.now c.args.by.now c.in_ok-word.word.items c.in_ok-word.ensures c.requires.a

pub loop-k-preserved : goal.loop-k-preserved
loop-k-preserved c =
    let row = rw c.deref.ensures.value at c.in_ok-word-2.ensures.row in
    let builds = rw c.deref.ensures.value at c.stage.ensures.builds in
    Moved-next c.args.gates.now c.loop-k.gates c.stage.new.gates c.args.way.now c.args.a.now c.args.by.now c.loop-k.word.items c.in_ok-word-2.word.items c.loop-k.k c.power.result c.index-by-k.result c.loop-k.invariant
    (let h = c.loop-k-test.true in let l = c.requires.many in omega arith) c.index-by-k.is c.power.ensures builds row

pub returns-clause-row : goal.returns-clause-row
returns-clause-row c = Moved-all c.args.gates.now c.loop-k.gates c.args.way.now c.args.a.now c.args.by.now c.loop-k.word.items c.loop-k.k c.args.many c.loop-k.invariant (let h = c.loop-k-test.false in omega arith)
