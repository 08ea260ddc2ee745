use Rattle.std.proofs.Common.{◌<◌, [], arith, get_or, length}
use Rattle.judge.proofs.Cycles.{part_more}
use Rattle.judge.proofs.run.part.Goals as goal

pub loop-place-preserved : goal.loop-place-preserved
loop-place-preserved c =
    let row = get_or c.args.rows.now c.args.number [] in
    let test = c.loop-place-test.true in
    let inside : c.loop-place.place < length (get_or c.args.rows.now c.args.number []) = omega arith in
    part_more row _ _ c.args.first c.loop-place.place _ c.loop-place.auto.place inside c.loop-place.invariant c.get.ensures c.in_ok-push.ensures.items
