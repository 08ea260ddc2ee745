use Rattle.std.proofs.Common.{◌≡◌, arith, suc, ◌+◌, ◌-◌, ◌*◌, ◌<◌, ◌≤◌}
use Rattle.cell_rows.proofs.Choosing.{slice_within}
use Rattle.btor_words.proofs.Emitting.{still}
use Rattle.btor_words.proofs.Chains.{all_chosen, none_chosen, one_more}
use Rattle.btor_words.proofs.choices.pmux.Goals as goal

pub loop-left-init : goal.loop-left-init
loop-left-init c = record { below = omega arith; so_far = none_chosen c.args.draft.now c.args.a c.args.b c.args.s (6 * (c.args.s.width - c.args.s.width)) c.requires.a c.requires.s }

pub choose-requires-clause-b : goal.choose-requires-clause-b
choose-requires-clause-b c = still c.loop-left.invariant.so_far.adds c.requires.b

pub choose-requires-clause-s : goal.choose-requires-clause-s
choose-requires-clause-s c = still c.loop-left.invariant.so_far.adds c.requires.s

pub choose-requires-clause-inside : goal.choose-requires-clause-inside
choose-requires-clause-inside c =
    let some = c.loop-left-test.true in
    let h = c.loop-left.invariant.below in
    let next : c.loop-left.left - 1 < c.args.s.width = omega arith in
    rw c.loop-left.invariant.so_far.size (slice_within c.args.a.width (c.loop-left.left - 1) c.args.s.width c.args.b.width next c.requires.widths)

pub loop-left-preserved : goal.loop-left-preserved
loop-left-preserved c =
    let some = c.loop-left-test.true in
    let h = c.loop-left.invariant.below in
    let k = c.loop-left.left - 1 in
    let back : suc k ≡ c.loop-left.left = omega arith in
    let fits : 6 * (c.args.s.width - suc k) + 6 ≤ 6 * (c.args.s.width - k) = omega arith in
    record {
      below = omega arith;
      so_far = one_more c.args.draft.now c.loop-left.draft c.choose.new.draft c.args.a c.args.b c.args.s c.loop-left.chosen c.in_ok-chosen.chosen c.args.a.width k (6 * (c.args.s.width - suc k)) (6 * (c.args.s.width - k))
          c.requires.s (omega arith) fits (rw back c.loop-left.invariant.so_far) c.in_ok-chosen.ensures.row;
    }

pub returns-clause-row : goal.returns-clause-row
returns-clause-row c =
    let none : c.loop-left.left ≡ 0 = (let h = c.loop-left-test.false in omega arith) in
    all_chosen c.args.draft.now c.loop-left.draft c.args.a c.args.b c.args.s c.loop-left.chosen c.args.a.width c.loop-left.left (6 * (c.args.s.width - c.loop-left.left)) (6 * c.args.s.width) c.requires.a.btor none (omega arith) c.loop-left.invariant.so_far

pub choose-requires-clause-chosen : goal.choose-requires-clause-chosen
choose-requires-clause-chosen c = c.loop-left.invariant.so_far.word

pub choose-requires-clause-below : goal.choose-requires-clause-below
choose-requires-clause-below c = let some = c.loop-left-test.true in let h = c.loop-left.invariant.below in omega arith
