use Rattle.design_reader.proofs.RunLemmas.{numbered_go, count_go, pushed_long}
use Rattle.design_reader.proofs.digit_rows.numbered_below.Goals as goal

pub loop-digit-preserved : goal.loop-digit-preserved
loop-digit-preserved c =
    let i = c.loop-digit.invariant in
    let old = c.loop-digit.segments in
    let new = c.push_bit.new.self in
    record {
      bits = numbered_go old new _ i.some c.in_ok-push_bit.ensures c.args.digits.now c.loop-digit.digit-index 0 c.loop-digit-test.true _ c.loop-digit.number c.number_behind-number.result c.numbered_bit-bit.ensures.bit c.number_behind-number.ensures i.bits;
      count = count_go old new _ i.some c.in_ok-push_bit.ensures c.args.digits.now c.loop-digit.digit-index 0 c.loop-digit-test.true c.loop-digit.number c.number_behind-number.result _ c.number_behind-number.ensures i.count;
      some = pushed_long old new _ i.some c.in_ok-push_bit.ensures;
    }
