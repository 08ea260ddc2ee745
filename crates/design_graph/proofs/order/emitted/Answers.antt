use Rattle.std.proofs.Common.{ℕ, None, get_or}
use Rattle.std.proofs.lemmas.Option.{slice_get-get_or}
use Rattle.design_graph.proofs.Ordering.{IsEmitted-next}
use Rattle.design_graph.proofs.order.emitted.Goals as goal

pub loop-place-preserved : goal.loop-place-preserved
loop-place-preserved c =
    let p : ℕ = get_or c.args.nodes.now c.loop-place.place 0 in
    let at = slice_get-get_or c.args.nodes.now c.loop-place.place 0 c.loop-place-test.true in
    let lt = c.requires c.loop-place.place p at in
    rw c.in_ok-push_some.ensures
    (IsEmitted-next c.args.table.now c.args.nodes.now c.loop-place.place c.loop-place.order.items c.loop-place.invariant p at (get_or c.args.table.now p None)
    (slice_get-get_or c.args.table.now p None lt))
