use Rattle.std.proofs.Common.{◌≡◌, ◌*◌, ◌%◌, ◌^◌, ◌≤◌, true, false, arith}
use Rattle.std.proofs.lemmas.Nat.{one_shl}
use Rattle.std.proofs.Math.Pow.{pow_mono}
use Rattle.sby_bits.proofs.Moves.{place_more}
use Rattle.sby_bits.proofs.shifts.places.Goals as goal
use Rattle.sby_bits.proofs.shifts.places.Goals.{then-bit-turned+then-i-lt64, then-bit-turned+else-i-lt64, else-bit-turned}

pub loop-i-preserved : goal.loop-i-preserved
loop-i-preserved c =
    elim c.if-bit-turned.branch [
      | then-bit-turned+then-i-lt64 w ↦
          let place : (1 * 2 ^ c.loop-i.i) % 2 ^ 64 ≡ 2 ^ c.loop-i.i = one_shl c.loop-i.i 64 w.if-i-lt64.true in
          omega (arith, place_more c.args.by.now c.args.turned true c.loop-i.i (omega arith) w.if-bit-turned.true, c.loop-i.invariant)
      | then-bit-turned+else-i-lt64 w ↦
          let far : 2 ^ 64 ≤ 2 ^ c.loop-i.i = pow_mono w.if-i-lt64.false in
          omega (arith, place_more c.args.by.now c.args.turned true c.loop-i.i (omega arith) w.if-bit-turned.true, c.loop-i.invariant)
      | else-bit-turned w ↦
          omega (arith, place_more c.args.by.now c.args.turned false c.loop-i.i (omega arith) w.if-bit-turned.false, c.loop-i.invariant)
    ]
