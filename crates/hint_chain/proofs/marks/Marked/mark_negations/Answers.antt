use Rattle.std.proofs.Common.{sym, ◌∙◌, arith}
use Rattle.lrat_check.proofs.Trail.{assuming_more, assuming_contradiction}
use Rattle.hint_chain.proofs.marks.Marked.mark_negations.Goals as goal

pub returns-then-has-clause-cases : goal.returns-then-has-clause-cases
returns-then-has-clause-cases c =
    let i = c.loop-l.invariant in
    assuming_contradiction c.args.clause.now c.loop-l.l-index c.loop-l.self.marks.items c.loop-l.self.trail.items c.l-item.result (omega (arith, c.loop-l-test.true)) c.l-item.is i.assuming (sym c.has.ensures ∙ c.if-has.true)

pub loop-l-preserved : goal.loop-l-preserved
loop-l-preserved c =
    let i = c.loop-l.invariant in
    record {
      sized = c.push.ensures.sized ∙ i.sized;
      assuming = assuming_more c.args.clause.now c.loop-l.l-index c.loop-l.self.marks.items _ c.loop-l.self.trail.items _ c.l-item.result (omega (arith, c.loop-l-test.true)) c.l-item.is i.assuming (sym c.has.ensures ∙ c.if-has.false) c.push.ensures.marked (cc c.in_ok-push.ensures.trail);
    }
