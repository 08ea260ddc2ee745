use Rattle.std.proofs.Common.{rules, ◌≡◌, ◌+◌, ◌*◌, false, length, replicate, arith}
use Rattle.frozen_clauses.proofs.Filing.{frozen_new}
use Rattle.frozen_clauses.proofs.frozen.Frozen.new.Goals as goal

pub invariant_of-result : goal.invariant_of-result
invariant_of-result c =
    let unmarked : c.in_ok-marks.marks.items ≡ replicate (2 * c.args.vars + 2) false = search rules in
    let count : length c.loop.lists.items ≡ 16381 = omega (arith, c.loop.invariant.count, c.loop-test.false, c.loop.auto.counter-end) in
    frozen_new c.args.vars c.new-2.result.items c.loop.lists.items c.in_ok-marks.marks.items c.requires c.new-2.ensures.items count c.loop.invariant.empty unmarked
