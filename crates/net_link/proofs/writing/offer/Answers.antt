use Rattle.std.proofs.Common.{arith, inl, ◌∙◌}
use Rattle.net_link.proofs.Written.{grew_more}
use Rattle.net_link.proofs.writing.offer.Goals as goal

pub loop-at-preserved : goal.loop-at-preserved
loop-at-preserved g c =
    let i = c.loop-at.invariant in
    let r = c.in_ok-count.ensures in
    (omega (arith, r.fits, c.split_at.ensures.back_len), grew_more _ _ _ c.loop-at.at c.in_ok-count.count c.args.bytes.now _ c.split_at.ensures.back i.1 r.taken, r.left ∙ i.2, r.stands (inl (omega (arith, c.if-count-eq0.false))) ∙ i.3)
