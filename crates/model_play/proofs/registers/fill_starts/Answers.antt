use Rattle.std.proofs.Common.{◌≡◌, ◌∙◌, ◌<◌, ap, arith, length, List, Option, Bool}
use Rattle.model_core.specs.Shape.{states}
use Rattle.model_play.proofs.Models.{bit_left, left_step, starts_step}
use Rattle.model_play.proofs.registers.fill_starts.Goals as goal

pub next_start-bit-requires : goal.next_start-bit-requires
next_start-bit-requires c = λ e.
    let ds = c.starts-digits.result.now in
    let w : length ds ≡ length (states c.args.model.now) = ap (λ (xs : List (Option Bool)). length xs) c.starts-digits.ensures ∙ c.requires.model.starts in
    let z = c.loop-k.invariant.left in
    let b = bit_left (states c.args.model.now) ds c.loop-k.k c.loop-k-test.true w e in
    omega (arith, z, b)

pub loop-k-preserved : goal.loop-k-preserved
loop-k-preserved c =
    let ds = c.starts-digits.result.now in
    let w : length ds ≡ length (states c.args.model.now) = ap (λ (xs : List (Option Bool)). length xs) c.starts-digits.ensures ∙ c.requires.model.starts in
    let h : c.loop-k.k < length c.loop-k.held = let a = c.loop-k.auto.held in let t = c.loop-k-test.true in omega (arith, a, t, w, c.requires.held) in
    record {
      row = starts_step (states c.args.model.now) ds c.args.bits.now c.loop-k.held c.loop-k.rest.now c.next_start-bit.result.1.now c.loop-k.k c.next_start-bit.result.0 c.loop-k-test.true w h c.loop-k.invariant.row c.next_start-bit.ensures.row;
      left = left_step (states c.args.model.now) ds c.loop-k.rest.now c.next_start-bit.result.1.now c.loop-k.k c.loop-k-test.true w c.loop-k.invariant.left c.next_start-bit.ensures.left;
    }
