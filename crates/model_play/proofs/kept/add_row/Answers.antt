use Rattle.std.proofs.Common.{◌≡◌, ◌∙◌, ◌-◌, ◌*◌, ap, refl, arith, length, length-drop, min, drop}
use Rattle.sby_bits.specs.Rows.{num}
use Rattle.model_play.proofs.Packing.{packed_read, pushed_more, taken_word}
use Rattle.model_play.proofs.kept.add_row.Goals as goal

pub loop-k-init : goal.loop-k-init
loop-k-init c = record { size = omega arith; pushed = λ j l. absurd (omega arith); before = λ j l. refl }

pub loop-k-preserved : goal.loop-k-preserved
loop-k-preserved c =
    let e = c.min-end.ensures in
    let d = length-drop (64 * c.loop-k.k) c.args.row.now in
    let n : c.min-end.result - 64 * c.loop-k.k ≡ min 64 (length (drop (64 * c.loop-k.k) c.args.row.now)) = omega (arith, e, d, c.loop-k-test.true, c.div_ceil-count.ensures) in
    pushed_more c.args.words.now.items c.loop-k.words.items c.push.new.self.items c.args.row.now c.loop-k.k c.pack.result c.loop-k.invariant c.in_ok-push.ensures.items
    (c.pack.ensures ∙ ap num (taken_word (drop (64 * c.loop-k.k) c.args.row.now) (c.min-end.result - 64 * c.loop-k.k) n))

pub returns-clause-row : goal.returns-clause-row
returns-clause-row c = λ p h.
    let t = c.loop-k-test.false in
    let e = c.div_ceil-count.ensures in
    packed_read c.loop-k.words.items c.args.row.now (length c.args.words.now.items) c.loop-k.k p c.loop-k.invariant.pushed (omega (arith, t, e, h))
