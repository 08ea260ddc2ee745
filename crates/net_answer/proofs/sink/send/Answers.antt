use Rattle.std.proofs.Common.{◌≡◌, ◌+◌, ◌++◌, arith, inl, ◌∙◌, subst, take}
use Rattle.net_link.specs.Frame.{framed}
use Rattle.net_answer.proofs.Answers.{sends_more}
use Rattle.net_answer.proofs.sink.send.Goals as goal

pub loop-sent-preserved : goal.loop-sent-preserved
loop-sent-preserved g c =
    let i = c.loop-sent.invariant in
    let r = c.in_ok-count.ensures in
    let l = c.left_of.ensures in
    let fits = r.fits in
    let within = l.within in
    (omega arith, sends_more _ _ _ (framed c.args.body.now) _ c.args.sent.now c.loop-sent.sent c.in_ok-count.count i.1 r.taken (subst (λ h. take (c.loop-sent.sent + c.in_ok-count.count) (h ++ c.args.body.now) ≡ take c.loop-sent.sent (h ++ c.args.body.now) ++ take c.in_ok-count.count c.left_of.result.now) c.to_be_bytes-head.ensures (l.front c.in_ok-count.count r.fits)), r.stands (inl (omega (arith, c.if-count-eq0.false))) ∙ i.2)
