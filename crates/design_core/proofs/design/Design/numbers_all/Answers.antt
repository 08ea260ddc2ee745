use Rattle.std.proofs.Common.{refl, arith}
use Rattle.std.proofs.lemmas.Bool.{false≢true}
use Rattle.std.proofs.lemmas.List.Elements.{All-contains}
use Rattle.design_core.specs.Shape.{IsNumbered}
use Rattle.design_core.proofs.Lists.{Contains-from_place, All-from_places}
use Rattle.design_core.proofs.design.Design.numbers_all.Goals as goal

pub returns-then-not-numbers : goal.returns-then-not-numbers
returns-then-not-numbers c = (
  λ h. absurd (false≢true h),
  λ h. c.if-not-numbers.ensures.1 (All-contains (IsNumbered c.args.self.now.free) c.args.constant.now _ h (Contains-from_place c.args.constant.now _ _ c.digit.ensures)),
)

pub returns : goal.returns
returns c = (
  λ _. All-from_places (IsNumbered c.args.self.now.free) c.args.constant.now c.loop-place.place (omega (arith, c.loop-place-test.false, c.len-place-end.ensures)) c.loop-place.invariant,
  λ _. refl,
)
