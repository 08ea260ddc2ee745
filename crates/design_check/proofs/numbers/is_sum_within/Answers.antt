use Rattle.std.proofs.Common.{arith}
use Rattle.design_core.proofs.Numbers.{number-later}
use Rattle.design_check.proofs.Products.{spare-start}
use Rattle.design_check.proofs.numbers.is_sum_within.Goals as goal

-- from the longest on nothing counts
pub loop-place-init : goal.loop-place-init
loop-place-init c =
    let places = c.max-places.result in
    let left = number-later c.args.left.now c.kept.result places (omega (arith, c.max.ensures, c.max-places.ensures)) c.kept.ensures.above in
    let right = number-later c.args.right.now c.kept-2.result places (omega (arith, c.max.ensures, c.max-places.ensures)) c.kept-2.ensures.above in
    let whole = number-later c.args.whole.now c.kept-3.result places (omega (arith, c.max-places.ensures)) c.kept-3.ensures.above in
    spare-start _ _ (omega (arith, left, right)) whole
