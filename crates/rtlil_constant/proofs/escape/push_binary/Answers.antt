use Rattle.std.proofs.Common.{arith, refl}
use Rattle.rtlil_constant.proofs.ConstantLemmas.{binary_down}
use Rattle.rtlil_constant.proofs.escape.push_binary.Goals as goal

pub bits-preserved : goal.bits-preserved
bits-preserved c =
    let i = c.bits.invariant in
    (omega (arith, i.0), rw c.in-Ok.ensures.items (binary_down c.bits.digits.items _ c.bits.place c.args.number _ c.bits-test.true refl i.1))
