use Rattle.std.proofs.Common.{◌≡◌, arith, suc, ◌+◌, ◌-◌, ◌*◌, ◌/◌, ◌^◌, ◌≤◌, ◌∙◌, ap, sym, ℕ}
use Rattle.std.proofs.lemmas.Nat.{mul-le, pow_pos}
use Rattle.btor_words.proofs.Emitting.{still}
use Rattle.btor_words.proofs.Chains.{all_halved, half_of, none_halved, one_halved}
use Rattle.btor_words.proofs.choices.bmux.Goals as goal

pub loop-left-init : goal.loop-left-init
loop-left-init c = record { below = omega arith; so_far = none_halved c.args.draft.now c.args.a c.args.s c.args.width (8 * (c.args.s.width - c.args.s.width)) c.requires.a c.requires.s c.requires.widths }

pub halve-requires-clause-s : goal.halve-requires-clause-s
halve-requires-clause-s c = still c.loop-left.invariant.so_far.adds c.requires.s

pub halve-requires-clause-width : goal.halve-requires-clause-width
halve-requires-clause-width c =
    let some = c.loop-left-test.true in
    let k = c.loop-left.left - 1 in
    let back : c.loop-left.left ≡ suc k = omega arith in
    let w = c.args.width in
    let wide : c.loop-left.chosen.width ≡ w * 2 ^ suc k = c.loop-left.invariant.so_far.size ∙ ap (λ (n : ℕ). w * 2 ^ n) back in
    let half : c.loop-left.chosen.width / 2 ≡ w * 2 ^ k = half_of w k c.loop-left.chosen.width wide in
    let most = c.loop-left.invariant.so_far.word.size.1 in
    let more : w * 1 ≤ w * 2 ^ k = mul-le w 1 w (2 ^ k) (omega arith) (omega (arith, pow_pos k)) in
    let low = c.requires.width.0 in
    (omega arith, omega arith)

pub loop-left-preserved : goal.loop-left-preserved
loop-left-preserved c =
    let some = c.loop-left-test.true in
    let h = c.loop-left.invariant.below in
    let k = c.loop-left.left - 1 in
    let back : suc k ≡ c.loop-left.left = omega arith in
    let fits : 8 * (c.args.s.width - suc k) + 8 ≤ 8 * (c.args.s.width - k) = omega arith in
    record {
      below = omega arith;
      so_far = one_halved c.args.draft.now c.loop-left.draft c.halve.new.draft c.args.a c.args.s c.loop-left.chosen c.in_ok-chosen.chosen c.args.width k (8 * (c.args.s.width - suc k)) (c.loop-left.chosen.width / 2) (8 * (c.args.s.width - k))
          c.requires.s (omega arith) fits (half_of c.args.width k c.loop-left.chosen.width (c.loop-left.invariant.so_far.size ∙ ap (λ (n : ℕ). c.args.width * 2 ^ n) (sym back))) (rw back c.loop-left.invariant.so_far) c.in_ok-chosen.ensures.row;
    }

pub returns-clause-row : goal.returns-clause-row
returns-clause-row c =
    let none : c.loop-left.left ≡ 0 = (let h = c.loop-left-test.false in omega arith) in
    all_halved c.args.draft.now c.loop-left.draft c.args.a c.args.s c.loop-left.chosen c.args.width c.loop-left.left (8 * (c.args.s.width - c.loop-left.left)) (8 * c.args.s.width) c.requires.a.btor none (omega arith) c.loop-left.invariant.so_far

pub halve-requires-clause-word : goal.halve-requires-clause-word
halve-requires-clause-word c = c.loop-left.invariant.so_far.word

pub halve-requires-clause-below : goal.halve-requires-clause-below
halve-requires-clause-below c = let some = c.loop-left-test.true in let h = c.loop-left.invariant.below in omega arith
