use Rattle.std.proofs.Common.{◌<◌, length, rules, arith}
use Rattle.drup_check.proofs.Weights.{left_first, left_step, left_none}
use Rattle.drup_check.proofs.marks.unmark_all.Goals as goal

pub loop-l-init : goal.loop-l-init
loop-l-init c = left_first c.args.marks.now c.args.clause.now c.requires.shows

pub loop-l-preserved : goal.loop-l-preserved
loop-l-preserved c =
    let room : c.index.result < length c.loop-l.marks = search rules in
    left_step c.loop-l.marks c.args.clause.now c.loop-l.l-index c.index.result c.l-item.result (omega arith) c.l-item.is c.index.ensures room c.loop-l.invariant

pub returns : goal.returns
returns c = left_none c.loop-l.marks c.args.clause.now c.loop-l.l-index (omega arith) c.loop-l.invariant
