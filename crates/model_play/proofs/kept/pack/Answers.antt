use Rattle.std.proofs.Common.{◌≡◌, suc, ◌*◌, ◌%◌, ◌^◌, ◌<◌, ◌≤◌, take, arith}
use Rattle.std.proofs.lemmas.Nat.{one_shl}
use Rattle.std.proofs.Math.Pow.{pow_mono}
use Rattle.std.proofs.Math.Nat.{pow-suc}
use Rattle.sby_bits.specs.Rows.{num}
use Rattle.sby_bits.proofs.Numbers.{num-take, num-take-lt}
use Rattle.model_play.proofs.kept.pack.Goals as goal
use Rattle.model_play.proofs.kept.pack.Goals.{then-bit, else-bit}

pub overflow_add-word : goal.overflow_add-word
overflow_add-word c =
    let i_in : c.loop-i.i < 64 = omega arith in
    let place : (1 * 2 ^ c.loop-i.i) % 2 ^ 64 ≡ 2 ^ c.loop-i.i = one_shl c.loop-i.i 64 i_in in
    let last : suc c.loop-i.i ≤ 64 = omega arith in
    let room : 2 ^ suc c.loop-i.i ≤ 2 ^ 64 = pow_mono last in
    let n_is : c.loop-i.word ≡ num (take c.loop-i.i c.args.bits.now) = c.loop-i.invariant in
    omega (arith, num-take-lt c.args.bits.now c.loop-i.i (omega arith), pow-suc 2 c.loop-i.i)

pub loop-i-preserved : goal.loop-i-preserved
loop-i-preserved c =
    let i_in : c.loop-i.i < 64 = omega arith in
    let place : (1 * 2 ^ c.loop-i.i) % 2 ^ 64 ≡ 2 ^ c.loop-i.i = one_shl c.loop-i.i 64 i_in in
    let n_is : c.loop-i.word ≡ num (take c.loop-i.i c.args.bits.now) = c.loop-i.invariant in
    let step = num-take c.args.bits.now c.loop-i.i (omega arith) in
    elim c.if-bit.branch [
      | then-bit w ↦ let more = rw w.if-bit.true at step in rw w.word-is (omega arith)
      | else-bit w ↦ let more = rw w.if-bit.false at step in rw w.word-is (omega arith)
    ]
