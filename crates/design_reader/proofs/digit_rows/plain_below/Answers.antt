use Rattle.std.proofs.Common.{refl}
use Rattle.design_reader.proofs.RunLemmas.{plain_go, pushed_long}
use Rattle.design_reader.proofs.digit_rows.plain_below.Goals as goal

pub loop-digit-preserved : goal.loop-digit-preserved
loop-digit-preserved c =
    let i = c.loop-digit.invariant in
    record {
      bits = plain_go c.loop-digit.segments c.push_bit.new.self _ i.some c.in_ok-push_bit.ensures c.args.digits.now c.loop-digit.digit-index 0 c.loop-digit-test.true _ refl i.bits;
      some = pushed_long c.loop-digit.segments c.push_bit.new.self _ i.some c.in_ok-push_bit.ensures;
    }
