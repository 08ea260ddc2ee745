use Rattle.std.proofs.Common.{subst}
use Rattle.design_core.specs.Shape.{DesignOf, IsDesign}
use Rattle.judge.proofs.encoding.model_of.Goals as goal

pub returns : goal.returns
returns c =
    let shape = subst (λ (d : DesignOf). IsDesign d) c.design.ensures.design c.places-places.ensures.design in
    let built = c.in_ok-model.ensures.built in
    record {
      design = shape;
      is_model = c.size-size.ensures.model;
      model = c.in_ok-model.ensures.model;
      built = built;
    }
