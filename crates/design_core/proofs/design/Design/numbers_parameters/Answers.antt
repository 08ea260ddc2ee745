use Rattle.std.proofs.Common.{All, refl, subst}
use Rattle.std.proofs.lemmas.Bool.{false≢true}
use Rattle.std.proofs.lemmas.List.Elements.{All-contains}
use Rattle.design_core.specs.Shape.{IsNumbered}
use Rattle.design_core.specs.declared.parts.Parameter.{Parameter}
use Rattle.design_core.proofs.Lists.{item_at, Contains-from_place, All-from_places, each_more, one_at}
use Rattle.design_core.proofs.design.Design.numbers_parameters.Goals as goal

pub returns-then-not-numbers_all : goal.returns-then-not-numbers_all
returns-then-not-numbers_all c =
    let at = item_at c.args.parameters.now c.loop-parameter.parameter-index c.parameter-item.result c.parameter-item.is c.loop-parameter-test.true in (
      λ h. absurd (false≢true h),
      λ h. c.if-not-numbers_all.ensures.1 (All-contains (λ (p : Parameter). All (IsNumbered c.args.self.now.free) p.digits) c.args.parameters.now _ h (Contains-from_place c.args.parameters.now _ _ at)),
    )

pub loop-parameter-preserved : goal.loop-parameter-preserved
loop-parameter-preserved c =
    let Q : Parameter → Type 0 = λ p. All (IsNumbered c.args.self.now.free) p.digits in
    let at = item_at c.args.parameters.now c.loop-parameter.parameter-index c.parameter-item.result c.parameter-item.is c.loop-parameter-test.true in
    each_more Q c.args.parameters.now c.loop-parameter.parameter-index c.loop-parameter.invariant (λ x h. subst Q (one_at c.args.parameters.now c.loop-parameter.parameter-index c.parameter-item.result x at h) (c.if-not-numbers_all.ensures.0 refl))

pub returns : goal.returns
returns c = (
  λ _. All-from_places (λ (p : Parameter). All (IsNumbered c.args.self.now.free) p.digits) c.args.parameters.now c.loop-parameter.parameter-index c.loop-parameter-test.false c.loop-parameter.invariant,
  λ _. refl,
)
