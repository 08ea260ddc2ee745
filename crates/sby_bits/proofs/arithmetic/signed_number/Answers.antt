use Rattle.std.proofs.Common.{◌≡◌, ◌^◌, ◌≤◌, ◌∙◌, length, true, false, sym, arith}
use Rattle.std.proofs.lemmas.Int.{ints}
use Rattle.std.proofs.Math.Pow.{pow_mono}
use Rattle.sby_bits.specs.Rows.{top_bit}
use Rattle.sby_bits.proofs.Numbers.{low_half, high_half, num-lt}
use Rattle.sby_bits.proofs.Residues.{low_ones}
use Rattle.sby_bits.proofs.arithmetic.signed_number.Goals as goal

pub overflow_cast-result : goal.overflow_cast-result
overflow_cast-result c =
    let sign : top_bit c.args.a.now ≡ false = sym c.top_bit.ensures ∙ c.if-not-top_bit.true in
    let room : 2 ^ length c.args.a.now ≤ 2 ^ 128 = pow_mono c.requires in
    omega (arith, ints, low_half c.args.a.now sign)

pub returns-then-not-top_bit : goal.returns-then-not-top_bit
returns-then-not-top_bit c =
    let sign : top_bit c.args.a.now ≡ false = sym c.top_bit.ensures ∙ c.if-not-top_bit.true in
    let room : 2 ^ length c.args.a.now ≤ 2 ^ 128 = pow_mono c.requires in
    let low = low_half c.args.a.now sign in
    rw sign (omega (arith, ints))

pub overflow_sub-result : goal.overflow_sub-result
overflow_sub-result c =
    let ones = low_ones (length c.args.a.now) c.requires in
    omega (arith, num-lt c.args.a.now)

pub overflow_cast-result-2 : goal.overflow_cast-result-2
overflow_cast-result-2 c =
    let sign : top_bit c.args.a.now ≡ true = sym c.top_bit.ensures ∙ c.if-not-top_bit.false in
    let room : 2 ^ length c.args.a.now ≤ 2 ^ 128 = pow_mono c.requires in
    let ones = low_ones (length c.args.a.now) c.requires in
    omega (arith, ints, num-lt c.args.a.now, high_half c.args.a.now sign)

pub returns : goal.returns
returns c =
    let sign : top_bit c.args.a.now ≡ true = sym c.top_bit.ensures ∙ c.if-not-top_bit.false in
    let room : 2 ^ length c.args.a.now ≤ 2 ^ 128 = pow_mono c.requires in
    let ones = low_ones (length c.args.a.now) c.requires in
    let below = num-lt c.args.a.now in
    let high = high_half c.args.a.now sign in
    rw sign (omega (arith, ints))
