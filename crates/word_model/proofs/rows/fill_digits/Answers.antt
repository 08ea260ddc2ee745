use Rattle.std.proofs.Common.{◌∙◌, ◌≤◌, length, map, List, ap, arith}
use Rattle.std.proofs.lemmas.List.{take_all}
use Rattle.std.proofs.lemmas.List.Elements.{All-contains}
use Rattle.design_core.proofs.Lists.{Contains-from_place}
use Rattle.design_core.specs.Shape.{IsNumbered}
use Rattle.design_core.specs.declared.digit.Digit.{Digit}
use Rattle.word_model.specs.Layout.{digit_place}
use Rattle.word_model.proofs.Listing.{map-next}
use Rattle.word_model.proofs.rows.fill_digits.Goals as goal

pub digit_place-requires : goal.digit_place-requires
digit_place-requires c =
    All-contains (IsNumbered c.args.design.now.free) c.args.constant.now c.digit.result c.requires
    (Contains-from_place c.args.constant.now c.loop-place.place c.digit.result c.digit.ensures)

pub loop-place-preserved : goal.loop-place-preserved
loop-place-preserved c =
    rw c.in_ok-push.ensures.items
    (map-next (digit_place c.args.design.now) c.args.constant.now c.loop-place.place c.digit.result c.loop-place.row.items c.digit_place.result c.digit.ensures c.digit_place.ensures c.loop-place.invariant)

pub returns : goal.returns
returns c =
    let most : length c.args.constant.now ≤ c.loop-place.place = omega (arith, c.loop-place-test.false, c.len-place-end.ensures) in
    c.loop-place.invariant ∙ ap (λ (l : List Digit). map (digit_place c.args.design.now) l) (take_all c.loop-place.place c.args.constant.now most)
