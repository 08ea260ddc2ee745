use Rattle.std.proofs.Common.{arith}
use Rattle.lrat_check.proofs.Trail.{assuming_more, assuming_contradiction}
use Rattle.lrat_check.proofs.propagation.assume.Goals as goal

pub returns-then-is_marked-clause-cases : goal.returns-then-is_marked-clause-cases
returns-then-is_marked-clause-cases c =
    assuming_contradiction c.args.clause.now c.loop-l.l-index c.loop-l.marks c.loop-l.trail.items c.l-item.result (omega arith) c.l-item.is c.loop-l.invariant (cc)

pub loop-l-preserved : goal.loop-l-preserved
loop-l-preserved c =
    assuming_more c.args.clause.now c.loop-l.l-index c.loop-l.marks _ c.loop-l.trail.items _ c.l-item.result (omega arith) c.l-item.is c.loop-l.invariant (cc) c.assign.ensures.marks (cc c.in_ok-assign.ensures.trail)
