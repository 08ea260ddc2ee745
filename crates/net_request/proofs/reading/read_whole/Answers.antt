use Rattle.std.proofs.Common.{sym, ◌∙◌, rules, arith, subst, take}
use Rattle.sby_edge.specs.declared.outside.Failed.{Failed}
use Rattle.net_link.specs.Link.{Took}
use Rattle.net_request.proofs.Fronts.{took_next}
use Rattle.net_request.proofs.reading.read_whole.Goals as goal

pub loop-at-preserved : goal.loop-at-preserved
loop-at-preserved g c =
    let i = c.loop-at.invariant in
    let s = c.split_at_mut-rest.ensures in
    let r = c.in_ok-count.ensures in
    (search rules, search rules, r.written ∙ i.2, r.stands ∙ i.3, took_next Failed _ _ _ c.split_at_mut-rest.result.0.now c.split_at_mut-rest.result.1.now c.read.new.buf c.loop-at.at c.in_ok-count.count (sym s.front_len) (subst (λ l. Took (g.L.Link.left c.args.link.now) (g.L.Link.left c.loop-at.link) (take c.loop-at.at l)) s.value i.4) r.bytes, λ k. (let f = c.type_inv.buf k in omega arith))
