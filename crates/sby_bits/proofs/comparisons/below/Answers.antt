use Rattle.std.proofs.Common.{◌∙◌, arith}
use Rattle.sby_bits.proofs.Orders.{below_changed, below_kept}
use Rattle.sby_bits.proofs.comparisons.below.Goals as goal
use Rattle.sby_bits.proofs.comparisons.below.Goals.{then-bit-b, else-bit-b}

pub loop-i-preserved : goal.loop-i-preserved
loop-i-preserved c =
    elim c.if-bit-b.branch [
      | then-bit-b w ↦ w.below-is ∙ below_changed c.args.a.now c.args.b.now c.loop-i.i (omega arith) (omega arith) w.if-bit-b.true
      | else-bit-b w ↦ w.below-is ∙ c.loop-i.invariant ∙ below_kept c.args.a.now c.args.b.now c.loop-i.i (omega arith) (omega arith) w.if-bit-b.false
    ]
