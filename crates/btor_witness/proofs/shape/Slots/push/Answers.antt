use Rattle.std.proofs.Common.{◌≡◌, ◌+◌, ap, ◌∙◌, ◌∷◌, ◌++◌, [], arith}
use Rattle.btor_witness.specs.Shape.{open_width}
use Rattle.btor_witness.proofs.Placing.{push_places}
use Rattle.btor_witness.proofs.shape.Slots.push.Goals as goal

pub invariant_of-self-2 : goal.invariant_of-self-2
invariant_of-self-2 c =
    let sum : c.in-Some.bits ≡ c.self.inside.bits + open_width c.args.slot = omega arith in
    push_places c.self.inside.places.items c.push.new.self.items c.self.inside.bits c.in-Some.bits c.args.slot c.self.invariant.0 c.self.invariant.1
    (c.in_ok-push.ensures.items ∙ ap (λ p. c.self.inside.places.items ++ p ∷ []) c.place_of-place.ensures) sum
